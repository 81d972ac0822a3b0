-- Folds of a case whose atoms are placed among those of a state.
use Rattle.std.specs.Prelude.{ℕ, List, Some}
use Rattle.heap_formula.specs.declared.atoms.Spatial.{Spatial}
use Rattle.heap_formula.specs.declared.proof_rules.Rule.{Rule}
use Rattle.search_moves.specs.declared.folds.cases.Fold.{Fold}
use Rattle.search_moves.specs.Folds.{Binding, fold_by, placed}

-- the fold of the case with its atoms at these places, if its pure atoms follow
abbrev pub fold_at : Fold → List ℕ → Binding → List Rule
fold_at fold places s = fold_by fold.state.now fold.predicate fold.arity fold.case.now places s

-- a fold for each way to place these atoms of the case, those before them being at the places taken
abbrev pub folds_by_placing : Fold → List Spatial → List ℕ → Binding → List Rule
folds_by_placing fold xs taken s =
    placed (fold_by fold.state.now fold.predicate fold.arity fold.case.now)
    fold.state.now.spatial xs taken (Some s)
