use Rattle.std.proofs.Common.{◌≡◌, drop}
use Rattle.rule_table.specs.Tests.{some_cell_at}
use Rattle.search_moves.proofs.right_cases.has_cell_at.Given as goal

abbrev pub invariant-loop-atom : goal.invariant-loop-atom
invariant-loop-atom l = some_cell_at l.address (drop l.atom-index l.atoms) ≡ some_cell_at l.address l.atoms
