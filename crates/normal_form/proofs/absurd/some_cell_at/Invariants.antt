use Rattle.std.proofs.Common.{◌≡◌, drop}
use Rattle.rule_table.specs.Tests.{some_cell_at}
use Rattle.normal_form.proofs.absurd.some_cell_at.Given as goal

abbrev pub invariant-loop-atom : goal.invariant-loop-atom
invariant-loop-atom l = some_cell_at l.u (drop l.atom-index l.atoms) ≡ some_cell_at l.u l.atoms
