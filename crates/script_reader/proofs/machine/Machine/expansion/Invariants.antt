use Rattle.std.proofs.Common.{◌≤◌}
use Rattle.script_reader.specs.Weight.{weight}
use Rattle.script_reader.proofs.machine.Machine.expansion.Given as goal

abbrev pub invariant-parameters : goal.invariant-parameters
invariant-parameters l = weight l.self.work ≤ weight l.initial.self.work
