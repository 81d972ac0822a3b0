use Rattle.fo_formula.proofs.StageLaws.{stage_next}
use Rattle.fo_formula.proofs.laws.stages_rise.Goals as goal

pub returns : goal.returns
returns c = stage_next
