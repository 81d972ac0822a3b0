use Rattle.goto_lang.specs.States.{state_of}
use Rattle.goto_lang.proofs.Moves.{successors}
use Rattle.goto_lang.proofs.laws.successors_are_steps.Goals as goal

pub returns : goal.returns
returns c = λ lines w c d. successors lines w (state_of c) d
