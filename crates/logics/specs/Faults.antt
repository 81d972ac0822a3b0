-- The first fault of a node.
use Rattle.std.specs.Prelude.{ℕ, suc, ◌≡◌, ◌<◌, List, [], ◌∷◌, length, Bool, true, false, nat_eq, nat_lt, Option, Some}
use Rattle.std.specs.Prelude.{None, Result, Ok, Err, slice_get}
use Rattle.trace_pairs.specs.Graph.{Pair}
use Rattle.logics.specs.declared.premises.Subgoal.{Subgoal}
use Rattle.logics.specs.declared.node.ProofNode.{ProofNode}
use Rattle.logics.specs.Logics.{LogicValue}

-- the first fault of two
abbrev pub first_of : {F : Type 0} → Option F → Option F → Option F
first_of None g = g
first_of (Some f) g = Some f

-- the fault where the test does not hold
abbrev pub fault_unless : {F : Type 0} → Bool → F → Option F
fault_unless true f = None
fault_unless false f = Some f

-- the node that has the premise's number, if there is one, states the premise
abbrev pub differs : {J R F : Type 0} → LogicValue J R F → ℕ → Subgoal J → Option (ProofNode J R) → Option F
differs c i premise None = Some c.faults.no_such_node
differs c i premise (Some node) = fault_unless (c.same premise.judgement node.judgement) (c.faults.premise_differs i)

-- the first premise whose number is not above v, or is no node's, or whose judgement is another; both lists begin at
-- place i
abbrev pub premises_fault : {J R F : Type 0} → LogicValue J R F → List (ProofNode J R) → ℕ → ℕ → List (Subgoal J)
    → List ℕ → Option F
premises_fault c nodes v i [] [] = None
premises_fault c nodes v i [] (u ∷ us) = Some c.faults.premise_count
premises_fault c nodes v i (p ∷ ps) [] = Some c.faults.premise_count
premises_fault c nodes v i (p ∷ ps) (u ∷ us) =
    first_of (fault_unless (nat_lt v u) c.faults.no_such_node)
    (first_of (differs c i p (slice_get nodes u)) (premises_fault c nodes v (suc i) ps us))

-- the fault of the numbers of a rule's premises: there are as many, and each names its premise
abbrev pub numbers_fault : {J R F : Type 0} → LogicValue J R F → List (ProofNode J R) → ℕ → List (Subgoal J) → List ℕ
    → Option F
numbers_fault c nodes v ps us =
    first_of (fault_unless (nat_eq (length ps) (length us)) c.faults.premise_count) (premises_fault c nodes v 0 ps us)

-- the rule's fault, or else that of the numbers
abbrev pub rule_fault : {J R F : Type 0} → LogicValue J R F → List (ProofNode J R) → ℕ → List ℕ
    → Result (List (Subgoal J)) F → Option F
rule_fault c nodes v us (Err f) = Some f
rule_fault c nodes v us (Ok ps) = numbers_fault c nodes v ps us

abbrev pub pairs_fault : {F : Type 0} → Result (List Pair) F → Option F
pairs_fault (Err f) = Some f
pairs_fault (Ok pairs) = None

-- the fault of a link to this node, if there is such a node
abbrev pub companion_fault : {J R F : Type 0} → LogicValue J R F → J → R → Option (ProofNode J R) → Option F
companion_fault c bud r None = Some c.faults.no_such_node
companion_fault c bud r (Some node) = pairs_fault (c.pairs_back bud r node.judgement)

-- a link has no premises' numbers
abbrev pub count_fault : {J R F : Type 0} → LogicValue J R F → List ℕ → Option F
count_fault c us = fault_unless (nat_eq (length us) 0) c.faults.premise_count

-- by the node that the reason names, if it is a link
abbrev pub reason_fault : {J R F : Type 0} → LogicValue J R F → List (ProofNode J R) → ℕ → List ℕ → J → R → Option ℕ
    → Option F
reason_fault c nodes v us j r None = rule_fault c nodes v us (c.premises j r)
reason_fault c nodes v us j r (Some target) = first_of (companion_fault c j r (slice_get nodes target))
    (count_fault c us)

-- the first fault of node v, none where it is right
abbrev pub node_fault : {J R F : Type 0} → LogicValue J R F → List (ProofNode J R) → ℕ → ProofNode J R → Option F
node_fault c nodes v node = reason_fault c nodes v node.premises node.judgement node.reason (c.target node.reason)

-- no node has a fault
abbrev pub AreRight : {J R F : Type 0} → LogicValue J R F → List (ProofNode J R) → Type 0
AreRight {J} {R} c nodes = (v : ℕ) (node : ProofNode J R) → slice_get nodes v ≡ Some node
    → node_fault c nodes v node ≡ None

-- no node before v has one
abbrev pub AreRightBefore : {J R F : Type 0} → LogicValue J R F → List (ProofNode J R) → ℕ → Type 0
AreRightBefore {J} {R} c nodes v =
    (u : ℕ) (node : ProofNode J R) → u < v → slice_get nodes u ≡ Some node → node_fault c nodes u node ≡ None

-- node v has this first fault, and no node before it has one
pub record IsLeastFault {J R F : Type 0} (c : LogicValue J R F) (nodes : List (ProofNode J R)) (v : ℕ) (fault : F)
    : Type 0 where
  pub node : ProofNode J R
  pub at : slice_get nodes v ≡ Some node
  pub first : node_fault c nodes v node ≡ Some fault
  pub before : AreRightBefore c nodes v
