use Rattle.std.proofs.Common.{◌≤◌, ◌-◌}
use Rattle.script_reader.specs.Weight.{weight}
use Rattle.script_reader.proofs.machine.Machine.bindings.Given as goal

abbrev pub invariant-pairs : goal.invariant-pairs
invariant-pairs l = weight l.self.work ≤ weight l.initial.self.work

abbrev pub decreases-pairs : goal.decreases-pairs
decreases-pairs l = l.pairs.end - l.pairs.next

abbrev pub invariant-formulas : goal.invariant-formulas
invariant-formulas l = weight l.self.work ≤ weight l.initial.self.work
