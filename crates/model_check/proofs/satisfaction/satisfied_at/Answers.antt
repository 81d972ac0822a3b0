use Rattle.model_check.specs.WideMasks.{number}
use Rattle.model_check.proofs.Exact.{answer}
use Rattle.model_check.proofs.satisfaction.satisfied_at.Goals as goal

pub returns : goal.returns
returns c =
    answer c.args.defs.now.list c.args.cells.now c.args.places.now.keys c.args.stack.now c.args.ask.now
    c.in_ok-masks.masks c.as_slice.result.now (number c.in_ok-whole.whole)
    c.has_mask-holds.result c.requires.covers c.as_slice.ensures c.in_ok-whole.ensures c.in_ok-masks.ensures c.has_mask-holds.ensures
