use Rattle.std.proofs.Common.{◌≤◌}
use Rattle.script_reader.specs.Weight.{weight}
use Rattle.script_reader.proofs.machine.Machine.equation.Given as goal

abbrev pub invariant-terms : goal.invariant-terms
invariant-terms l = weight l.self.work ≤ weight l.initial.self.work
