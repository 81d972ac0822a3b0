use Rattle.std.proofs.Common.{◌≡◌, ◌++◌, drop}
use Rattle.search_moves.specs.Places.{each_from}
use Rattle.search_moves.specs.Folds.{folds_of, folds}
use Rattle.search_moves.proofs.folds.placing.folds.Given as goal

abbrev pub invariant-loop-q : goal.invariant-loop-q
invariant-loop-q l = l.rules.items ++ each_from (folds_of l.state) l.q (drop l.q l.defs) ≡ folds l.state l.defs
