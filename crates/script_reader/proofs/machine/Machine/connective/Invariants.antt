use Rattle.std.proofs.Common.{◌≤◌}
use Rattle.script_reader.specs.Weight.{weight}
use Rattle.script_reader.proofs.machine.Machine.connective.Given as goal

abbrev pub invariant-parts : goal.invariant-parts
invariant-parts l = weight l.self.work ≤ weight l.initial.self.work
