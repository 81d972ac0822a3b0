-- Zero and successor, numbers and even numbers, and the proof that even numbers are numbers.
use Rattle.std.specs.Prelude.{ℕ, suc, List, [], ◌∷◌, Option}
use Rattle.heap_formula.specs.declared.proof_rules.Side.TheVariants.{Left as TheLeft}
use Rattle.fo_formula.specs.declared.terms.Sign.TheVariants.{Universal, Local, Constructor}
use Rattle.fo_formula.specs.declared.atoms.FoAtom.{FoAtom}
use Rattle.fo_formula.specs.declared.atoms.FoAtom.TheVariants.{Equation, Predicate}
use Rattle.fo_formula.specs.Nodes.{FoNode}
use Rattle.fo_formula.specs.declared.nodes.FoReason.{FoReason}
use Rattle.fo_formula.specs.declared.nodes.FoReason.TheVariants.{Rule, Link}
use Rattle.fo_formula.specs.declared.nodes.FoRule.TheVariants.{Refl, Replace, Unfold, Right}
use Rattle.fo_formula.specs.declared.theory.FoTheory.{FoTheory}
use Rattle.fo_formula.specs.Words.{Word}
use Rattle.fo_formula.specs.declared.table.faults.FoFault.{FoFault}
use Rattle.logics.specs.Faults.{node_fault as fault_of_node}
use Rattle.fo_logic.specs.FirstOrder.{first_order}

abbrev pub zero_term : Word
zero_term = Constructor 0 0 ∷ []

abbrev pub successor : Word → Word
successor w = Constructor 1 1 ∷ w

abbrev pub variable : ℕ → Word
variable n = Universal n ∷ []

abbrev pub local : Word
local = Local 0 ∷ []

-- nat: zero, or the successor of a number; even: zero, or two above an even number
abbrev pub nat : Word → FoAtom
nat w = Predicate 0 (w ∷ [])

abbrev pub even : Word → FoAtom
even w = Predicate 1 (w ∷ [])

abbrev pub numbers : FoTheory
numbers =
    record {
      constructors = record { name = []; arguments = 0 } ∷ record { name = []; arguments = 1 } ∷ [];
      definitions =
          record {
            name = [];
            arity = 1;
            cases = (Equation (variable 0) zero_term ∷ [])
                ∷ (Equation (variable 0) (successor local) ∷ nat local ∷ []) ∷ [];
          }
          ∷ record {
            name = [];
            arity = 1;
            cases = (Equation (variable 0) zero_term ∷ [])
                ∷ (Equation (variable 0) (successor (successor local)) ∷ even local ∷ []) ∷ [];
          }
          ∷ [];
    }

abbrev pub node : List FoAtom → FoAtom → FoReason → List ℕ → FoNode
node left right reason premises =
    record { judgement = record { left = left; right = right ∷ [] }; reason = reason; premises = premises }

abbrev pub root_of : FoNode
root_of = node (even (variable 0) ∷ []) (nat (variable 0)) (Rule (Unfold 0)) (1 ∷ 4 ∷ [])

abbrev pub bud_of : List (ℕ × Word) → FoNode
bud_of pairs =
    node (even (variable 1) ∷ []) (nat (variable 1))
    (Link (record { to = 0; substitution = pairs; left_map = 0 ∷ []; right_map = 0 ∷ [] })) []

abbrev pub unchanged_link : FoNode
unchanged_link = bud_of ((0, variable 0) ∷ [])

abbrev pub even_is_nat : List FoNode
even_is_nat =
    let one = variable 1 in
    let next = successor one in
    let after = successor next in
    root_of
    ∷ node (Equation (variable 0) zero_term ∷ []) (nat (variable 0)) (Rule (Replace 0 TheLeft)) (2 ∷ [])
    ∷ node [] (nat zero_term) (Rule (Right 0 0 [])) (3 ∷ [])
    ∷ node [] (Equation zero_term zero_term) (Rule (Refl 0)) []
    ∷ node (Equation (variable 0) after ∷ even one ∷ []) (nat (variable 0)) (Rule (Replace 0 TheLeft)) (5 ∷ [])
    ∷ node (even one ∷ []) (nat after) (Rule (Right 0 1 (next ∷ []))) (6 ∷ 7 ∷ [])
    ∷ node (even one ∷ []) (Equation after after) (Rule (Refl 0)) []
    ∷ node (even one ∷ []) (nat next) (Rule (Right 0 1 (one ∷ []))) (8 ∷ 9 ∷ [])
    ∷ node (even one ∷ []) (Equation next next) (Rule (Refl 0)) []
    ∷ bud_of ((0, one) ∷ [])
    ∷ []

-- the first fault of node v
abbrev pub node_fault : FoTheory → List FoNode → ℕ → FoNode → Option FoFault
node_fault t nodes v node = fault_of_node (first_order t) nodes v node

-- the first fault of each node, from number v on
abbrev pub faults_from : FoTheory → List FoNode → ℕ → List FoNode → List (Option FoFault)
faults_from t nodes v [] = []
faults_from t nodes v (n ∷ ns) = node_fault t nodes v n ∷ faults_from t nodes (suc v) ns

abbrev pub first_faults : FoTheory → List FoNode → List (Option FoFault)
first_faults t nodes = faults_from t nodes 0 nodes
