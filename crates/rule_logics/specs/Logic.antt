-- A logic of rules with links to nodes that state the same.
use Rattle.std.specs.Prelude.{ℕ, zero, suc, Bool, false, ◌&&◌, nat_lt, if◌then◌else◌, List, [], ◌∷◌, ◌++◌, map, Option}
use Rattle.std.specs.Prelude.{Some, None, Result, Ok, Err}
use Rattle.std.specs.List.{filter}
use Rattle.trace_pairs.specs.Graph.{Pair}
use Rattle.logics.specs.declared.premises.Subgoal.{Subgoal}
use Rattle.logics.specs.Logics.{LogicValue}
use Rattle.rule_logics.specs.declared.reasons.Reason.{Reason}
use Rattle.rule_logics.specs.declared.reasons.Reason.TheVariants as reason
use Rattle.rule_logics.specs.declared.reasons.NodeFault.{NodeFault}
use Rattle.rule_logics.specs.declared.reasons.NodeFault.TheVariants as fault
use Rattle.rule_logics.specs.Rules.{RuleValue}

-- ---- positions

abbrev pub one_if : Bool → ℕ → List ℕ
one_if test k = if test then k ∷ [] else []

-- those of the n positions from k on that pass
unfoldable pub positions_from : (ℕ → Bool) → ℕ → ℕ → List ℕ
positions_from test zero k = []
positions_from test (suc n) k = one_if (test k) k ++ positions_from test n (suc k)

-- the positions below 32 that traces follow
abbrev pub positions_of : {J R F : Type 0} → RuleValue J R F → J → List ℕ
positions_of c j = positions_from (c.follows j) 32 0

-- ---- pairs

abbrev pub is_position : {J R F : Type 0} → RuleValue J R F → J → ℕ → Bool
is_position c j q = nat_lt q 32 && c.follows j q

-- the pairs whose positions traces follow
abbrev pub kept_pairs : {J R F : Type 0} → RuleValue J R F → J → J → List Pair → List Pair
kept_pairs c j k pairs = filter (λ (p : Pair). is_position c j p.0 && is_position c k p.1) pairs

abbrev pub kept : {J R F : Type 0} → RuleValue J R F → J → Subgoal J → Subgoal J
kept c j p = record { judgement = p.judgement; pairs = kept_pairs c j p.judgement p.pairs }

abbrev pub to_itself : List ℕ → List Pair
to_itself positions = map (λ q. (q, q, false)) positions

-- ---- reasons

abbrev pub target_of : {R : Type 0} → Reason R → Option ℕ
target_of (reason.Rule r) = None
target_of (reason.Link target) = Some target

abbrev pub kept_answer : {J R F : Type 0} → RuleValue J R F → J → Result (List (Subgoal J)) F
    → Result (List (Subgoal J)) (NodeFault F)
kept_answer c j (Ok ps) = Ok (map (kept c j) ps)
kept_answer c j (Err f) = Err (fault.Rule f)

abbrev pub premises_by : {J R F : Type 0} → RuleValue J R F → J → Reason R → Result (List (Subgoal J)) (NodeFault F)
premises_by c j (reason.Rule r) = kept_answer c j (c.premises j r)
premises_by c j (reason.Link target) = Err fault.NoSuchNode

-- the pairs where the companion states the same
abbrev pub back_if : {F : Type 0} → Bool → List Pair → Result (List Pair) (NodeFault F)
back_if same pairs = if same then Ok pairs else Err fault.LinkDiffers

abbrev pub pairs_by : {J R F : Type 0} → RuleValue J R F → J → Reason R → J → Result (List Pair) (NodeFault F)
pairs_by c bud (reason.Rule r) companion = Err fault.NoSuchNode
pairs_by c bud (reason.Link target) companion = back_if (c.same bud companion) (to_itself (positions_of c bud))

abbrev pub logic_by : {J R F : Type 0} → RuleValue J R F → LogicValue J (Reason R) (NodeFault F)
logic_by c = record {
  positions = positions_of c;
  same = c.same;
  target = target_of;
  premises = premises_by c;
  pairs_back = pairs_by c;
  faults = record {
    no_such_node = fault.NoSuchNode;
    premise_count = fault.PremiseCount;
    premise_differs = fault.PremiseDiffers;
  };
}
