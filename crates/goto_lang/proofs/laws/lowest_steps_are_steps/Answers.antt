use Rattle.goto_lang.proofs.Ends.{lowest_is_step}
use Rattle.goto_lang.proofs.laws.lowest_steps_are_steps.Goals as goal

pub returns : goal.returns
returns c = lowest_is_step
