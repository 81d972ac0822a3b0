use Rattle.command_answers.proofs.DisproveOneAnswer.{model_holds}
use Rattle.command_answers.proofs.disprove.laws.written_models_hold.Goals as goal

pub returns : goal.returns
returns c = model_holds
