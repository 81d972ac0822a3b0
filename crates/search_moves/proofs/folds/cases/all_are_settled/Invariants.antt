use Rattle.std.proofs.Common.{◌≡◌, drop}
use Rattle.std.specs.List.{list_all}
use Rattle.search_moves.specs.Folds.{are_settled}
use Rattle.search_moves.proofs.folds.cases.all_are_settled.Given as goal

abbrev pub invariant-loop-atom : goal.invariant-loop-atom
invariant-loop-atom l = list_all (are_settled l.atoms) (drop l.atom-index l.pures)
    ≡ list_all (are_settled l.atoms) l.pures
