use Rattle.std.proofs.Common.{◌≡◌, drop}
use Rattle.std.specs.List.{list_any}
use Rattle.search_moves.specs.Kinds.{is_cell}
use Rattle.search_moves.proofs.folds.cases.has_cell.Given as goal

abbrev pub invariant-loop-atom : goal.invariant-loop-atom
invariant-loop-atom l = list_any is_cell (drop l.atom-index l.atoms) ≡ list_any is_cell l.atoms
