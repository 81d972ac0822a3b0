-- Examples of files whose every node is right, with some of their trace pairs.
use Rattle.std.proofs.Common.{◌≡◌, ℕ, List, [], ◌∷◌, Option, Some, None, refl}
use Rattle.heap_formula.specs.declared.terms.Term.TheVariants.{Nil, Univ, Exist}
use Rattle.heap_formula.specs.declared.atoms.Pure.TheVariants.{Eq, Neq}
use Rattle.heap_formula.specs.declared.atoms.Spatial.TheVariants.{Cell, Pred}
use Rattle.heap_formula.specs.declared.commands.Command.{Command}
use Rattle.heap_formula.specs.declared.commands.Command.TheVariants.{Load, IfEq, Goto, Stop}
use Rattle.heap_formula.specs.declared.judgements.Judgement.TheVariants.{Entail, Term as Runs}
use Rattle.heap_formula.specs.declared.proof_rules.Side.TheVariants.{Left, Right}
use Rattle.heap_formula.specs.declared.proof_rules.Rule.TheVariants.{Absurd, Rewrite, Unfold, Cut, Done, PureRight}
use Rattle.heap_formula.specs.declared.proof_rules.Rule.TheVariants.{Instantiate, Frame, UnfoldRight, Exec}
use Rattle.heap_formula.specs.declared.proof_rules.Reason.TheVariants.{Step, Back}
use Rattle.heap_formula.specs.Definitions.{Definition}
use Rattle.std.proofs.Common.{Bool, true, false}
use Rattle.std.specs.Prelude.{slice_get}
use Rattle.trace_pairs.specs.Graph.{Edge, Pair}
use Rattle.rule_book.specs.Graphs.{Node, edges_of}
use Rattle.rule_book.proofs.ExampleFaults.{faults_from, first_limits, heap, node}

-- two list segments, one after the other, are one segment
abbrev segments_defs : List Definition
segments_defs = record {
  name = [];
  arity = 2;
  cases = heap (Eq (Univ 0) (Univ 1) ∷ []) ([])
      ∷ heap ([]) (Cell (Univ 0) ((Exist 0) ∷ []) ∷ Pred 0 ((Exist 0) ∷ (Univ 1) ∷ []) ∷ []) ∷ [];
} ∷ []

abbrev segments_lines : List Command
segments_lines = []

abbrev segments_nodes : List Node
segments_nodes =
    node (Entail (heap ([]) (Pred 0 ((Univ 0) ∷ (Univ 1) ∷ []) ∷ Pred 0 ((Univ 1) ∷ (Univ 2) ∷ []) ∷ []))
    (heap ([]) (Pred 0 ((Univ 0) ∷ (Univ 2) ∷ []) ∷ []) ∷ [])) (Step (Unfold 0)) (1 ∷ 4 ∷ [])
    ∷ node (Entail (heap (Eq (Univ 0) (Univ 1) ∷ []) (Pred 0 ((Univ 1) ∷ (Univ 2) ∷ []) ∷ []))
    (heap ([]) (Pred 0 ((Univ 0) ∷ (Univ 2) ∷ []) ∷ []) ∷ [])) (Step (Rewrite 0 Left)) (2 ∷ [])
    ∷ node (Entail (heap ([]) (Pred 0 ((Univ 1) ∷ (Univ 2) ∷ []) ∷ []))
    (heap ([]) (Pred 0 ((Univ 1) ∷ (Univ 2) ∷ []) ∷ []) ∷ [])) (Step (Frame 0 0)) (3 ∷ [])
    ∷ node (Entail (heap ([]) ([])) (heap ([]) ([]) ∷ [])) (Step Done) ([])
    ∷ node (Entail (heap ([]) (Pred 0 ((Univ 1) ∷ (Univ 2) ∷ []) ∷ Cell (Univ 0) ((Univ 3) ∷ [])
    ∷ Pred 0 ((Univ 3) ∷ (Univ 1) ∷ []) ∷ [])) (heap ([]) (Pred 0 ((Univ 0) ∷ (Univ 2) ∷ []) ∷ []) ∷ []))
    (Step (UnfoldRight 0 1)) (5 ∷ [])
    ∷ node (Entail (heap ([]) (Pred 0 ((Univ 1) ∷ (Univ 2) ∷ []) ∷ Cell (Univ 0) ((Univ 3) ∷ [])
    ∷ Pred 0 ((Univ 3) ∷ (Univ 1) ∷ []) ∷ [])) (heap ([])
    (Cell (Univ 0) ((Exist 0) ∷ []) ∷ Pred 0 ((Exist 0) ∷ (Univ 2) ∷ []) ∷ []) ∷ []))
    (Step (Instantiate 0 (Univ 3))) (6 ∷ [])
    ∷ node (Entail (heap ([]) (Pred 0 ((Univ 1) ∷ (Univ 2) ∷ []) ∷ Cell (Univ 0) ((Univ 3) ∷ [])
    ∷ Pred 0 ((Univ 3) ∷ (Univ 1) ∷ []) ∷ [])) (heap ([])
    (Cell (Univ 0) ((Univ 3) ∷ []) ∷ Pred 0 ((Univ 3) ∷ (Univ 2) ∷ []) ∷ []) ∷ [])) (Step (Frame 1 0)) (7 ∷ [])
    ∷ node (Entail (heap ([]) (Pred 0 ((Univ 1) ∷ (Univ 2) ∷ []) ∷ Pred 0 ((Univ 3) ∷ (Univ 1) ∷ []) ∷ []))
    (heap ([]) (Pred 0 ((Univ 3) ∷ (Univ 2) ∷ []) ∷ []) ∷ []))
    (Back (record {
      target = 0;
      subst = (0, (Univ 3)) ∷ (1, (Univ 1)) ∷ (2, (Univ 2)) ∷ [];
      map = 1 ∷ 0 ∷ [];
      disjuncts = 0 ∷ [];
    })) ([])
    ∷ []

segments_is_right : faults_from segments_defs segments_lines segments_nodes 0 segments_nodes ≡ None ∷ None ∷ None ∷ None
    ∷ None ∷ None ∷ None ∷ None ∷ []
segments_is_right = refl

-- a proof with two cuts, each of which folds a case into its predicate
abbrev folding_defs : List Definition
folding_defs = record {
  name = [];
  arity = 1;
  cases = heap (Eq (Univ 0) Nil ∷ []) ([])
      ∷ heap ([]) (Cell (Univ 0) ((Exist 0) ∷ []) ∷ Pred 0 ((Exist 1) ∷ []) ∷ []) ∷ [];
} ∷ []

abbrev folding_lines : List Command
folding_lines = []

abbrev folding_nodes : List Node
folding_nodes =
    node (Entail (heap ([]) (Pred 0 ((Univ 0) ∷ []) ∷ Pred 0 ((Univ 1) ∷ []) ∷ [])) (heap ([]) ([]) ∷ []))
    (Step (Unfold 0)) (1 ∷ 12 ∷ [])
    ∷ node (Entail (heap (Eq (Univ 0) Nil ∷ []) (Pred 0 ((Univ 1) ∷ []) ∷ [])) (heap ([]) ([]) ∷ [])) (Step (Unfold 0))
    (2 ∷ 3 ∷ [])
    ∷ node (Entail (heap (Eq (Univ 0) Nil ∷ Eq (Univ 1) Nil ∷ []) ([])) (heap ([]) ([]) ∷ [])) (Step Done) ([])
    ∷ node (Entail (heap (Eq (Univ 0) Nil ∷ []) (Cell (Univ 1) ((Univ 2) ∷ []) ∷ Pred 0 ((Univ 3) ∷ []) ∷ []))
    (heap ([]) ([]) ∷ [])) (Step (Cut (0 ∷ []) (heap ([]) (Pred 0 ((Univ 1) ∷ []) ∷ [])))) (4 ∷ 11 ∷ [])
    ∷ node (Entail (heap (Eq (Univ 0) Nil ∷ []) (Cell (Univ 1) ((Univ 2) ∷ []) ∷ []))
    (heap ([]) (Pred 0 ((Univ 1) ∷ []) ∷ []) ∷ [])) (Step (UnfoldRight 0 1)) (5 ∷ [])
    ∷ node (Entail (heap (Eq (Univ 0) Nil ∷ []) (Cell (Univ 1) ((Univ 2) ∷ []) ∷ []))
    (heap ([]) (Cell (Univ 1) ((Exist 0) ∷ []) ∷ Pred 0 ((Exist 1) ∷ []) ∷ []) ∷ []))
    (Step (Instantiate 0 (Univ 2))) (6 ∷ [])
    ∷ node (Entail (heap (Eq (Univ 0) Nil ∷ []) (Cell (Univ 1) ((Univ 2) ∷ []) ∷ []))
    (heap ([]) (Cell (Univ 1) ((Univ 2) ∷ []) ∷ Pred 0 ((Exist 1) ∷ []) ∷ []) ∷ [])) (Step (Instantiate 1 Nil))
    (7 ∷ [])
    ∷ node (Entail (heap (Eq (Univ 0) Nil ∷ []) (Cell (Univ 1) ((Univ 2) ∷ []) ∷ []))
    (heap ([]) (Cell (Univ 1) ((Univ 2) ∷ []) ∷ Pred 0 (Nil ∷ []) ∷ []) ∷ [])) (Step (Frame 0 0)) (8 ∷ [])
    ∷ node (Entail (heap (Eq (Univ 0) Nil ∷ []) ([])) (heap ([]) (Pred 0 (Nil ∷ []) ∷ []) ∷ []))
    (Step (UnfoldRight 0 0)) (9 ∷ [])
    ∷ node (Entail (heap (Eq (Univ 0) Nil ∷ []) ([])) (heap (Eq Nil Nil ∷ []) ([]) ∷ [])) (Step (PureRight 0)) (10 ∷ [])
    ∷ node (Entail (heap (Eq (Univ 0) Nil ∷ []) ([])) (heap ([]) ([]) ∷ [])) (Step Done) ([])
    ∷ node (Entail (heap (Eq (Univ 0) Nil ∷ []) (Pred 0 ((Univ 3) ∷ []) ∷ Pred 0 ((Univ 1) ∷ []) ∷ []))
    (heap ([]) ([]) ∷ [])) (Back (record {
      target = 0;
      subst = (0, (Univ 1)) ∷ (1, (Univ 3)) ∷ [];
      map = 1 ∷ 0 ∷ [];
      disjuncts = 0 ∷ [];
    })) ([])
    ∷ node (Entail (heap ([]) (Pred 0 ((Univ 1) ∷ []) ∷ Cell (Univ 0) ((Univ 2) ∷ []) ∷ Pred 0 ((Univ 3) ∷ []) ∷ []))
    (heap ([]) ([]) ∷ [])) (Step (Cut (0 ∷ 1 ∷ []) (heap ([]) (Pred 0 ((Univ 0) ∷ []) ∷ [])))) (13 ∷ 19 ∷ [])
    ∷ node (Entail (heap ([]) (Pred 0 ((Univ 1) ∷ []) ∷ Cell (Univ 0) ((Univ 2) ∷ []) ∷ []))
    (heap ([]) (Pred 0 ((Univ 0) ∷ []) ∷ []) ∷ [])) (Step (UnfoldRight 0 1)) (14 ∷ [])
    ∷ node (Entail (heap ([]) (Pred 0 ((Univ 1) ∷ []) ∷ Cell (Univ 0) ((Univ 2) ∷ []) ∷ []))
    (heap ([]) (Cell (Univ 0) ((Exist 0) ∷ []) ∷ Pred 0 ((Exist 1) ∷ []) ∷ []) ∷ []))
    (Step (Instantiate 0 (Univ 2))) (15 ∷ [])
    ∷ node (Entail (heap ([]) (Pred 0 ((Univ 1) ∷ []) ∷ Cell (Univ 0) ((Univ 2) ∷ []) ∷ []))
    (heap ([]) (Cell (Univ 0) ((Univ 2) ∷ []) ∷ Pred 0 ((Exist 1) ∷ []) ∷ []) ∷ [])) (Step (Instantiate 1 (Univ 1)))
    (16 ∷ [])
    ∷ node (Entail (heap ([]) (Pred 0 ((Univ 1) ∷ []) ∷ Cell (Univ 0) ((Univ 2) ∷ []) ∷ []))
    (heap ([]) (Cell (Univ 0) ((Univ 2) ∷ []) ∷ Pred 0 ((Univ 1) ∷ []) ∷ []) ∷ [])) (Step (Frame 1 0)) (17 ∷ [])
    ∷ node (Entail (heap ([]) (Pred 0 ((Univ 1) ∷ []) ∷ [])) (heap ([]) (Pred 0 ((Univ 1) ∷ []) ∷ []) ∷ []))
    (Step (Frame 0 0)) (18 ∷ [])
    ∷ node (Entail (heap ([]) ([])) (heap ([]) ([]) ∷ [])) (Step Done) ([])
    ∷ node (Entail (heap ([]) (Pred 0 ((Univ 3) ∷ []) ∷ Pred 0 ((Univ 0) ∷ []) ∷ [])) (heap ([]) ([]) ∷ []))
    (Back (record { target = 0; subst = (0, (Univ 3)) ∷ (1, (Univ 0)) ∷ []; map = 0 ∷ 1 ∷ []; disjuncts = 0 ∷ [] }))
    ([])
    ∷ []

folding_is_right : faults_from folding_defs folding_lines folding_nodes 0 folding_nodes ≡ None ∷ None ∷ None ∷ None
    ∷ None ∷ None ∷ None ∷ None ∷ None ∷ None ∷ None ∷ None ∷ None ∷ None ∷ None ∷ None ∷ None ∷ None ∷ None ∷ None ∷ []
folding_is_right = refl

-- a program that goes along a list
abbrev walk_defs : List Definition
walk_defs = record {
  name = [];
  arity = 1;
  cases = heap (Eq (Univ 0) Nil ∷ []) ([])
      ∷ heap ([]) (Cell (Univ 0) ((Exist 0) ∷ []) ∷ Pred 0 ((Exist 0) ∷ []) ∷ []) ∷ [];
} ∷ []

abbrev walk_lines : List Command
walk_lines = IfEq (Univ 0) Nil 4 ∷ Load 0 (Univ 0) 1 ∷ Goto 1 ∷ Stop ∷ []

abbrev walk_nodes : List Node
walk_nodes =
    node (Runs 1 (heap ([]) (Pred 0 ((Univ 0) ∷ []) ∷ []))) (Step Exec) (1 ∷ 2 ∷ [])
    ∷ node (Runs 4 (heap (Eq (Univ 0) Nil ∷ []) (Pred 0 ((Univ 0) ∷ []) ∷ []))) (Step Exec) ([])
    ∷ node (Runs 2 (heap (Neq (Univ 0) Nil ∷ []) (Pred 0 ((Univ 0) ∷ []) ∷ []))) (Step (Unfold 0)) (3 ∷ 5 ∷ [])
    ∷ node (Runs 2 (heap (Neq (Univ 0) Nil ∷ Eq (Univ 0) Nil ∷ []) ([]))) (Step (Rewrite 1 Left)) (4 ∷ [])
    ∷ node (Runs 2 (heap (Neq Nil Nil ∷ Eq (Univ 0) Nil ∷ []) ([]))) (Step Absurd) ([])
    ∷ node (Runs 2 (heap (Neq (Univ 0) Nil ∷ []) (Cell (Univ 0) ((Univ 1) ∷ []) ∷ Pred 0 ((Univ 1) ∷ []) ∷ [])))
    (Step Exec) (6 ∷ [])
    ∷ node (Runs 3 (heap (Neq (Univ 2) Nil ∷ Eq (Univ 0) (Univ 1) ∷ [])
    (Cell (Univ 2) ((Univ 1) ∷ []) ∷ Pred 0 ((Univ 1) ∷ []) ∷ []))) (Step (Rewrite 1 Right)) (7 ∷ [])
    ∷ node (Runs 3 (heap (Neq (Univ 2) Nil ∷ []) (Cell (Univ 2) ((Univ 0) ∷ []) ∷ Pred 0 ((Univ 0) ∷ []) ∷ [])))
    (Step Exec) (8 ∷ [])
    ∷ node (Runs 1 (heap (Neq (Univ 2) Nil ∷ []) (Cell (Univ 2) ((Univ 0) ∷ []) ∷ Pred 0 ((Univ 0) ∷ []) ∷ [])))
    (Back (record { target = 0; subst = (0, (Univ 0)) ∷ []; map = 1 ∷ []; disjuncts = [] })) ([])
    ∷ []

walk_is_right : faults_from walk_defs walk_lines walk_nodes 0 walk_nodes ≡ None ∷ None ∷ None ∷ None ∷ None ∷ None
    ∷ None ∷ None ∷ None ∷ []
walk_is_right = refl

-- ---- trace pairs

abbrev pair : ℕ → ℕ → Bool → Pair
pair old new progress = (old, new, progress)

abbrev edges_at : List Definition → List Command → List Node → Option Node → List Edge
edges_at ds lines nodes None = []
edges_at ds lines nodes (Some n) = edges_of first_limits ds lines nodes n

abbrev edge : ℕ → List Pair → Edge
edge target pairs = record { target = target; pairs = pairs }

-- Unfold: the kept atom, and the children of the unfolded one
segments_unfold : edges_at segments_defs segments_lines segments_nodes (slice_get segments_nodes 0)
    ≡ edge 1 (pair 1 0 false ∷ []) ∷ edge 4 (pair 1 0 false ∷ pair 0 2 true ∷ []) ∷ []
segments_unfold = refl

-- Frame 1 0: the third atom moves down
segments_frame : edges_at segments_defs segments_lines segments_nodes (slice_get segments_nodes 6)
    ≡ edge 7 (pair 0 0 false ∷ pair 2 1 false ∷ []) ∷ []
segments_frame = refl

-- Link [1 0]
segments_link : edges_at segments_defs segments_lines segments_nodes (slice_get segments_nodes 7)
    ≡ edge 0 (pair 1 0 false ∷ pair 0 1 false ∷ []) ∷ []
segments_link = refl

-- Cut [0 1]: the first premise has the cut atoms, the second the others, and the formula's atom no pair
folding_cut : edges_at folding_defs folding_lines folding_nodes (slice_get folding_nodes 12)
    ≡ edge 13 (pair 0 0 false ∷ []) ∷ edge 19 (pair 2 0 false ∷ []) ∷ []
folding_cut = refl

-- Exec at a read
walk_read : edges_at walk_defs walk_lines walk_nodes (slice_get walk_nodes 5) ≡ edge 6 (pair 1 1 false ∷ []) ∷ []
walk_read = refl
