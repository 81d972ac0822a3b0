use Rattle.script_reader.specs.Weight.{weight}
use Rattle.script_reader.proofs.machine.Machine.formula.Given as goal

abbrev pub decreases-steps : goal.decreases-steps
decreases-steps l = weight l.self.work
