use Rattle.std.proofs.Common.{◌≡◌, drop}
use Rattle.rule_table.specs.Tests.{two_cells}
use Rattle.normal_form.proofs.absurd.two_cells.Given as goal

abbrev pub invariant-loop-i : goal.invariant-loop-i
invariant-loop-i l = two_cells (drop l.i l.atoms) ≡ two_cells l.atoms
