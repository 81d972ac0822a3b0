use Rattle.std.proofs.Common.{◌≤◌, ◌-◌}
use Rattle.script_reader.specs.Weight.{weight}
use Rattle.script_reader.proofs.machine.Machine.exists.Given as goal

abbrev pub invariant-variables : goal.invariant-variables
invariant-variables l = weight l.self.work ≤ weight l.initial.self.work

abbrev pub decreases-variables : goal.decreases-variables
decreases-variables l = l.variables.end - l.variables.next
