use Rattle.std.proofs.Common.{◌≤◌}
use Rattle.script_reader.specs.Weight.{weight}
use Rattle.script_reader.proofs.machine.Machine.differences.Given as goal

abbrev pub invariant-others : goal.invariant-others
invariant-others l = weight l.self.work ≤ weight l.initial.self.work
