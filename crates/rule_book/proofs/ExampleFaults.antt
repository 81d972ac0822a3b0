-- Examples of files with what is wrong at each of their nodes.
use Rattle.std.proofs.Common.{◌≡◌, ℕ, suc, List, [], ◌∷◌, Option, Some, None, refl}
use Rattle.cyc_basics.specs.declared.limits.Limits.{Limits}
use Rattle.heap_formula.specs.declared.terms.Term.TheVariants.{Nil, Univ, Exist}
use Rattle.heap_formula.specs.declared.atoms.Pure.{Pure}
use Rattle.heap_formula.specs.declared.atoms.Pure.TheVariants.{Eq, Neq}
use Rattle.heap_formula.specs.declared.atoms.Spatial.{Spatial}
use Rattle.heap_formula.specs.declared.atoms.Spatial.TheVariants.{Cell, Pred}
use Rattle.heap_formula.specs.declared.commands.Command.{Command}
use Rattle.heap_formula.specs.declared.commands.Command.TheVariants.{New, Free, IfEq, Stop}
use Rattle.heap_formula.specs.declared.judgements.Judgement.{Judgement}
use Rattle.heap_formula.specs.declared.judgements.Judgement.TheVariants.{Entail, Term as Runs}
use Rattle.heap_formula.specs.declared.proof_rules.Side.TheVariants.{Left}
use Rattle.heap_formula.specs.declared.proof_rules.Rule.TheVariants.{Absurd, Rewrite, Distinct, Weaken, Unfold, Cut}
use Rattle.heap_formula.specs.declared.proof_rules.Rule.TheVariants.{Done, PureRight, Instantiate, Frame, UnfoldRight}
use Rattle.heap_formula.specs.declared.proof_rules.Rule.TheVariants.{Exec, Drop}
use Rattle.heap_formula.specs.declared.proof_rules.Reason.{Reason}
use Rattle.heap_formula.specs.declared.proof_rules.Reason.TheVariants.{Step, Back}
use Rattle.heap_formula.specs.declared.proof_rules.RuleFault.{RuleFault}
use Rattle.heap_formula.specs.declared.proof_rules.RuleFault.TheVariants.{NoSuchAtom, NotEquation, AtomsDiffer}
use Rattle.heap_formula.specs.declared.proof_rules.RuleFault.TheVariants.{NotSingle, HasExistential, NoCell}
use Rattle.heap_formula.specs.declared.proof_rules.RuleFault.TheVariants.{WrongJudgement, LinkSpatial, LinkDisjunct}
use Rattle.heap_formula.specs.declared.proof_rules.RuleFault.TheVariants.{PremiseCount, PremiseDiffers, NoSuchNode}
use Rattle.heap_formula.specs.declared.proof_rules.RuleFault.TheVariants.{NoFreshVariable}
use Rattle.heap_formula.specs.Symbolic.{SymbolicHeap}
use Rattle.heap_formula.specs.Definitions.{Definition}
use Rattle.rule_book.specs.Graphs.{Node, node_fault}

abbrev pub heap : List Pure → List Spatial → SymbolicHeap
heap ps xs = record { pure = ps; spatial = xs }

abbrev pub node : Judgement → Reason → List ℕ → Node
node j r us = record { judgement = j; reason = r; premises = us }

-- what files of version 1 may have
abbrev pub first_limits : Limits
first_limits = record { arguments = 8; cases = 16; locals = 16; pure = 64; spatial = 16; cells = 16 }

abbrev pub faults_from : List Definition → List Command → List Node → ℕ → List Node → List (Option RuleFault)
faults_from ds lines all v [] = []
faults_from ds lines all v (n ∷ ns) = node_fault first_limits ds lines all v n ∷ faults_from ds lines all (suc v) ns

-- a predicate that goes round with nothing unfolded: no node is faulty
abbrev weakened_nodes : List Node
weakened_nodes =
    node (Entail (heap (Eq Nil Nil ∷ []) (Pred 0 ((Univ 0) ∷ []) ∷ [])) (heap ([]) ([]) ∷ [])) (Step (Weaken 0))
    (1 ∷ [])
    ∷ node (Entail (heap ([]) (Pred 0 ((Univ 0) ∷ []) ∷ [])) (heap ([]) ([]) ∷ []))
    (Back (record { target = 0; subst = (0, (Univ 0)) ∷ []; map = 0 ∷ []; disjuncts = 0 ∷ [] })) ([])
    ∷ []

weakened_faults : faults_from (record {
  name = [];
  arity = 1;
  cases = heap (Eq (Univ 0) Nil ∷ []) ([]) ∷ heap ([]) (Cell (Univ 0) ((Exist 0) ∷ []) ∷ Pred 0 ((Exist 0) ∷ []) ∷ [])
      ∷ [];
} ∷ []) ([]) weakened_nodes 0 weakened_nodes ≡ None ∷ None ∷ []
weakened_faults = refl

-- a link whose map sends an atom to one of other terms
abbrev wrong_entry_nodes : List Node
wrong_entry_nodes =
    node (Entail (heap ([]) (Pred 0 ((Univ 0) ∷ (Univ 1) ∷ []) ∷ Pred 0 ((Univ 1) ∷ (Univ 2) ∷ []) ∷ []))
    (heap ([]) (Pred 0 ((Univ 0) ∷ (Univ 2) ∷ []) ∷ []) ∷ [])) (Step (Unfold 0)) (1 ∷ 4 ∷ [])
    ∷ node (Entail (heap (Eq (Univ 0) (Univ 1) ∷ []) (Pred 0 ((Univ 1) ∷ (Univ 2) ∷ []) ∷ []))
    (heap ([]) (Pred 0 ((Univ 0) ∷ (Univ 2) ∷ []) ∷ []) ∷ [])) (Step (Rewrite 0 Left)) (2 ∷ [])
    ∷ node (Entail (heap ([]) (Pred 0 ((Univ 1) ∷ (Univ 2) ∷ []) ∷ []))
    (heap ([]) (Pred 0 ((Univ 1) ∷ (Univ 2) ∷ []) ∷ []) ∷ [])) (Step (Frame 0 0)) (3 ∷ [])
    ∷ node (Entail (heap ([]) ([])) (heap ([]) ([]) ∷ [])) (Step Done) ([])
    ∷ node (Entail (heap ([]) (Pred 0 ((Univ 1) ∷ (Univ 2) ∷ []) ∷ Cell (Univ 0) ((Univ 3) ∷ [])
    ∷ Pred 0 ((Univ 3) ∷ (Univ 1) ∷ []) ∷ [])) (heap ([]) (Pred 0 ((Univ 0) ∷ (Univ 2) ∷ []) ∷ []) ∷ []))
    (Step (UnfoldRight 0 1)) (5 ∷ [])
    ∷ node (Entail (heap ([]) (Pred 0 ((Univ 1) ∷ (Univ 2) ∷ []) ∷ Cell (Univ 0) ((Univ 3) ∷ [])
    ∷ Pred 0 ((Univ 3) ∷ (Univ 1) ∷ []) ∷ [])) (heap ([])
    (Cell (Univ 0) ((Exist 0) ∷ []) ∷ Pred 0 ((Exist 0) ∷ (Univ 2) ∷ []) ∷ []) ∷ []))
    (Step (Instantiate 0 (Univ 3))) (6 ∷ [])
    ∷ node (Entail (heap ([]) (Pred 0 ((Univ 1) ∷ (Univ 2) ∷ []) ∷ Cell (Univ 0) ((Univ 3) ∷ [])
    ∷ Pred 0 ((Univ 3) ∷ (Univ 1) ∷ []) ∷ [])) (heap ([])
    (Cell (Univ 0) ((Univ 3) ∷ []) ∷ Pred 0 ((Univ 3) ∷ (Univ 2) ∷ []) ∷ []) ∷ [])) (Step (Frame 1 0)) (7 ∷ [])
    ∷ node (Entail (heap ([]) (Pred 0 ((Univ 1) ∷ (Univ 2) ∷ []) ∷ Pred 0 ((Univ 3) ∷ (Univ 1) ∷ []) ∷ []))
    (heap ([]) (Pred 0 ((Univ 3) ∷ (Univ 2) ∷ []) ∷ []) ∷ []))
    (Back (record {
      target = 0;
      subst = (0, (Univ 3)) ∷ (1, (Univ 1)) ∷ (2, (Univ 2)) ∷ [];
      map = 0 ∷ 1 ∷ [];
      disjuncts = 0 ∷ [];
    })) ([])
    ∷ []

wrong_entry_faults : faults_from (record {
  name = [];
  arity = 2;
  cases = heap (Eq (Univ 0) (Univ 1) ∷ []) ([]) ∷ heap ([])
      (Cell (Univ 0) ((Exist 0) ∷ []) ∷ Pred 0 ((Exist 0) ∷ (Univ 1) ∷ []) ∷ []) ∷ [];
} ∷ []) ([])
    wrong_entry_nodes 0 wrong_entry_nodes ≡ None ∷ None ∷ None ∷ None ∷ None ∷ None ∷ None ∷ Some (LinkSpatial 0) ∷ []
wrong_entry_faults = refl

-- a predicate without a finite unfolding
abbrev endless_nodes : List Node
endless_nodes =
    node (Entail (heap ([]) (Pred 0 ((Univ 0) ∷ []) ∷ [])) (heap (Neq Nil Nil ∷ []) ([]) ∷ [])) (Step (Unfold 0))
    (1 ∷ [])
    ∷ node (Entail (heap ([]) (Cell (Univ 0) ((Univ 1) ∷ []) ∷ Pred 0 ((Univ 1) ∷ []) ∷ []))
    (heap (Neq Nil Nil ∷ []) ([]) ∷ [])) (Step (Cut (1 ∷ []) (heap (Neq Nil Nil ∷ []) ([])))) (2 ∷ 3 ∷ [])
    ∷ node (Entail (heap ([]) (Pred 0 ((Univ 1) ∷ []) ∷ [])) (heap (Neq Nil Nil ∷ []) ([]) ∷ []))
    (Back (record { target = 0; subst = (0, (Univ 1)) ∷ []; map = 0 ∷ []; disjuncts = 0 ∷ [] })) ([])
    ∷ node (Entail (heap (Neq Nil Nil ∷ []) (Cell (Univ 0) ((Univ 1) ∷ []) ∷ [])) (heap (Neq Nil Nil ∷ []) ([]) ∷ []))
    (Step Absurd) ([])
    ∷ []

endless_faults : faults_from (record {
  name = [];
  arity = 1;
  cases = heap ([]) (Cell (Univ 0) ((Exist 0) ∷ []) ∷ Pred 0 ((Exist 0) ∷ []) ∷ []) ∷ [];
} ∷ []) ([])
    endless_nodes 0 endless_nodes ≡ None ∷ None ∷ None ∷ None ∷ []
endless_faults = refl

-- a link whose disjunct is not the companion's
abbrev wrong_disjunct_nodes : List Node
wrong_disjunct_nodes =
    node (Entail (heap ([]) ([])) (heap ([]) (Pred 0 ((Univ 0) ∷ []) ∷ []) ∷ [])) (Step (UnfoldRight 0 0)) (1 ∷ [])
    ∷ node (Entail (heap ([]) ([])) (heap ([]) (Cell (Univ 0) ((Exist 0) ∷ []) ∷ Pred 0 ((Exist 0) ∷ []) ∷ []) ∷ []))
    (Back (record { target = 0; subst = (0, (Univ 0)) ∷ []; map = []; disjuncts = 0 ∷ [] })) ([])
    ∷ []

wrong_disjunct_faults : faults_from (record {
  name = [];
  arity = 1;
  cases = heap ([]) (Cell (Univ 0) ((Exist 0) ∷ []) ∷ Pred 0 ((Exist 0) ∷ []) ∷ []) ∷ [];
} ∷ []) ([])
    wrong_disjunct_nodes 0 wrong_disjunct_nodes ≡ None ∷ Some (LinkDisjunct 0) ∷ []
wrong_disjunct_faults = refl

-- a predicate that is its own only case, unfolded on the right
abbrev right_side_nodes : List Node
right_side_nodes =
    node (Entail (heap ([]) ([])) (heap ([]) (Pred 0 ((Univ 0) ∷ []) ∷ []) ∷ [])) (Step (UnfoldRight 0 0)) (1 ∷ [])
    ∷ node (Entail (heap ([]) ([])) (heap ([]) (Pred 0 ((Univ 0) ∷ []) ∷ []) ∷ []))
    (Back (record { target = 0; subst = (0, (Univ 0)) ∷ []; map = []; disjuncts = 0 ∷ [] })) ([])
    ∷ []

right_side_faults : faults_from (record { name = []; arity = 1; cases = heap ([]) (Pred 0 ((Univ 0) ∷ []) ∷ []) ∷ [] }
    ∷ []) ([]) right_side_nodes 0 right_side_nodes ≡ None ∷ None ∷ []
right_side_faults = refl

-- a new cell may stand where a freed one stood
abbrev other_state_nodes : List Node
other_state_nodes =
    node (Runs 1 (heap ([]) (Cell (Univ 0) ((Univ 2) ∷ []) ∷ []))) (Step Exec) (1 ∷ [])
    ∷ node (Runs 2 (heap ([]) ([]))) (Step Exec) (2 ∷ [])
    ∷ node (Runs 3 (heap (Neq (Univ 0) (Univ 1) ∷ []) (Cell (Univ 1) ((Univ 3) ∷ []) ∷ []))) (Step Exec) (3 ∷ 4 ∷ [])
    ∷ node (Runs 5 (heap (Neq (Univ 0) (Univ 1) ∷ Eq (Univ 0) (Univ 1) ∷ []) (Cell (Univ 1) ((Univ 3) ∷ []) ∷ [])))
    (Step (Rewrite 1 Left)) (5 ∷ [])
    ∷ node (Runs 4 (heap (Neq (Univ 0) (Univ 1) ∷ Neq (Univ 0) (Univ 1) ∷ []) (Cell (Univ 1) ((Univ 3) ∷ []) ∷ [])))
    (Step Exec) ([])
    ∷ node (Runs 5 (heap (Neq (Univ 1) (Univ 1) ∷ Eq (Univ 0) (Univ 1) ∷ []) (Cell (Univ 1) ((Univ 3) ∷ []) ∷ [])))
    (Step Absurd) ([])
    ∷ []

other_state_faults : faults_from ([]) (Free (Univ 0) ∷ New 1 1 ∷ IfEq (Univ 0) (Univ 1) 5 ∷ Stop ∷ Free Nil ∷ Stop ∷ [])
    other_state_nodes 0 other_state_nodes ≡ None ∷ Some (PremiseDiffers 0) ∷ None ∷ None ∷ None ∷ None ∷ []
other_state_faults = refl

-- a cell that is freed twice
abbrev freed_twice_nodes : List Node
freed_twice_nodes =
    node (Runs 1 (heap ([]) (Cell (Univ 0) ((Univ 1) ∷ []) ∷ []))) (Step Exec) (1 ∷ [])
    ∷ node (Runs 2 (heap ([]) ([]))) (Step Exec) (2 ∷ [])
    ∷ node (Runs 3 (heap ([]) ([]))) (Step Exec) ([])
    ∷ []

freed_twice_faults : faults_from ([]) (Free (Univ 0) ∷ Free (Univ 0) ∷ Stop ∷ []) freed_twice_nodes 0 freed_twice_nodes
    ≡ None ∷ Some NoCell ∷ None ∷ []
freed_twice_faults = refl

-- as many cells as version 1 allows
abbrev full_nodes : List Node
full_nodes =
    node (Entail (heap ([]) (Cell Nil (Nil ∷ []) ∷ Cell Nil (Nil ∷ []) ∷ Cell Nil (Nil ∷ []) ∷ Cell Nil (Nil ∷ [])
    ∷ Cell Nil (Nil ∷ []) ∷ Cell Nil (Nil ∷ []) ∷ Cell Nil (Nil ∷ []) ∷ Cell Nil (Nil ∷ []) ∷ Cell Nil (Nil ∷ [])
    ∷ Cell Nil (Nil ∷ []) ∷ Cell Nil (Nil ∷ []) ∷ Cell Nil (Nil ∷ []) ∷ Cell Nil (Nil ∷ []) ∷ Cell Nil (Nil ∷ [])
    ∷ Cell Nil (Nil ∷ []) ∷ Cell Nil (Nil ∷ []) ∷ [])) (heap ([]) ([]) ∷ [])) (Step Absurd) ([])
    ∷ []

full_faults : faults_from ([]) ([]) full_nodes 0 full_nodes ≡ None ∷ []
full_faults = refl

-- a premise number for a rule without premises
abbrev needless_number_nodes : List Node
needless_number_nodes =
    node (Entail (heap ([]) ([])) (heap ([]) ([]) ∷ [])) (Step Done) (0 ∷ [])
    ∷ []

needless_number_faults : faults_from ([]) ([]) needless_number_nodes 0 needless_number_nodes ≡ Some PremiseCount ∷ []
needless_number_faults = refl

-- a fresh variable whose number is too great
abbrev no_number_nodes : List Node
no_number_nodes =
    node (Entail (heap ([]) (Pred 0 ((Univ 65534) ∷ []) ∷ [])) (heap ([]) ([]) ∷ [])) (Step (Unfold 0)) (1 ∷ [])
    ∷ node (Entail (heap ([]) ([])) (heap ([]) ([]) ∷ [])) (Step Done) ([])
    ∷ []

no_number_faults : faults_from (record {
  name = [];
  arity = 1;
  cases = heap ([]) (Cell (Univ 0) ((Exist 0) ∷ []) ∷ Pred 0 ((Exist 0) ∷ []) ∷ []) ∷ [];
} ∷ []) ([])
    no_number_nodes 0 no_number_nodes ≡ Some NoFreshVariable ∷ None ∷ []
no_number_faults = refl

-- the last fresh variable, and a premise that is another judgement
abbrev last_number_nodes : List Node
last_number_nodes =
    node (Entail (heap ([]) (Pred 0 ((Univ 65533) ∷ []) ∷ [])) (heap ([]) ([]) ∷ [])) (Step (Unfold 0)) (1 ∷ [])
    ∷ node (Entail (heap ([]) ([])) (heap ([]) ([]) ∷ [])) (Step Done) ([])
    ∷ []

last_number_faults : faults_from (record {
  name = [];
  arity = 1;
  cases = heap ([]) (Cell (Univ 0) ((Exist 0) ∷ []) ∷ Pred 0 ((Exist 0) ∷ []) ∷ []) ∷ [];
} ∷ []) ([])
    last_number_nodes 0 last_number_nodes ≡ Some (PremiseDiffers 0) ∷ None ∷ []
last_number_faults = refl

-- a link to no node
abbrev no_target_nodes : List Node
no_target_nodes =
    node (Entail (heap ([]) ([])) (heap ([]) ([]) ∷ []))
    (Back (record { target = 7; subst = []; map = []; disjuncts = 0 ∷ [] })) ([])
    ∷ []

no_target_faults : faults_from ([]) ([]) no_target_nodes 0 no_target_nodes ≡ Some NoSuchNode ∷ []
no_target_faults = refl

-- a link to the node itself
abbrev own_target_nodes : List Node
own_target_nodes =
    node (Entail (heap ([]) ([])) (heap ([]) ([]) ∷ []))
    (Back (record { target = 0; subst = []; map = []; disjuncts = 0 ∷ [] })) ([])
    ∷ []

own_target_faults : faults_from ([]) ([]) own_target_nodes 0 own_target_nodes ≡ None ∷ []
own_target_faults = refl

-- several faults at one node: the first in the written order counts
abbrev order_nodes : List Node
order_nodes =
    node (Entail (heap ([]) (Pred 0 ((Univ 0) ∷ []) ∷ []))
    (heap ([]) (Pred 0 ((Exist 0) ∷ []) ∷ []) ∷ heap ([]) ([]) ∷ [])) (Step (Frame 0 0)) (1 ∷ [])
    ∷ node (Entail (heap ([]) (Pred 0 ((Univ 0) ∷ []) ∷ [])) (heap ([]) (Pred 0 ((Exist 0) ∷ []) ∷ []) ∷ []))
    (Step (Frame 0 0)) (2 ∷ [])
    ∷ node (Entail (heap ([]) (Pred 0 ((Univ 0) ∷ []) ∷ [])) (heap ([]) (Pred 0 ((Univ 1) ∷ []) ∷ []) ∷ []))
    (Step (Frame 0 0)) (3 ∷ [])
    ∷ node (Entail (heap ([]) (Pred 0 ((Univ 0) ∷ []) ∷ [])) (heap ([]) (Pred 0 ((Univ 0) ∷ []) ∷ []) ∷ []))
    (Step (Frame 1 0)) (4 ∷ [])
    ∷ node (Entail (heap ([]) (Pred 0 ((Univ 0) ∷ []) ∷ [])) (heap ([]) ([]) ∷ [])) (Step (Distinct 0 1)) (5 ∷ [])
    ∷ node (Entail (heap ([]) (Pred 0 ((Univ 0) ∷ []) ∷ Pred 0 ((Univ 1) ∷ []) ∷ [])) (heap ([]) ([]) ∷ []))
    (Step (Distinct 0 1)) (6 ∷ [])
    ∷ node (Entail (heap (Eq (Univ 0) (Univ 1) ∷ []) ([])) (heap (Eq (Univ 1) (Univ 0) ∷ []) ([]) ∷ []))
    (Step (PureRight 0)) (7 ∷ [])
    ∷ node (Entail (heap (Neq (Univ 0) (Univ 1) ∷ []) ([])) (heap ([]) ([]) ∷ [])) (Step (Rewrite 0 Left)) (8 ∷ [])
    ∷ node (Entail (heap (Eq Nil (Univ 1) ∷ []) ([])) (heap ([]) ([]) ∷ [])) (Step (Rewrite 0 Left)) (9 ∷ [])
    ∷ node (Entail (heap ([]) ([])) (heap ([]) ([]) ∷ [])) (Step (Drop 0)) (10 ∷ [])
    ∷ []

order_faults : faults_from (record {
  name = [];
  arity = 1;
  cases = heap ([])
      (Cell (Univ 0) ((Exist 0) ∷ []) ∷ Pred 0 ((Exist 0) ∷ []) ∷ []) ∷ [];
} ∷ []) ([]) order_nodes 0 order_nodes
    ≡ Some NotSingle ∷ Some HasExistential ∷ Some AtomsDiffer ∷ Some NoSuchAtom ∷ Some NoSuchAtom ∷ Some NoCell
    ∷ Some (PremiseDiffers 0) ∷ Some NotEquation ∷ Some NotEquation ∷ Some WrongJudgement ∷ []
order_faults = refl
