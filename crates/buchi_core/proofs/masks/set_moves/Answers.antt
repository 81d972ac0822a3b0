-- No position has a move before the first pair.
use Rattle.buchi_core.proofs.Moves.{none_led}
use Rattle.buchi_core.proofs.masks.set_moves.Goals as goal

pub loop-pair-init : goal.loop-pair-init
loop-pair-init c = record {
  all = λ p q lp lq. none_led _ p q _;
  progress = λ p q lp lq. none_led _ p q _;
}
