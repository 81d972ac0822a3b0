use Rattle.goto_lang.proofs.Moves.{some_step}
use Rattle.goto_lang.proofs.laws.some_step_is_allowed.Goals as goal

pub returns : goal.returns
returns c = some_step
