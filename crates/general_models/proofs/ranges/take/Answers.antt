use Rattle.general_models.proofs.RangeSteps.{taken}
use Rattle.general_models.proofs.ranges.take.Goals as goal

pub returns : goal.returns
returns c = taken c.args.number c.args.numbers.now.keys c.insert.new.self.keys c.in_ok-insert.ensures.keys
