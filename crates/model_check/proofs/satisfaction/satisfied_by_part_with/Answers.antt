use Rattle.model_check.proofs.Exact.{some_part}
use Rattle.model_check.proofs.satisfaction.satisfied_by_part_with.Goals as goal

pub returns : goal.returns
returns c =
    some_part c.args.defs.now.list c.args.cells.now c.in_ok-places.places.keys c.args.stack.now c.args.ask.now
    c.in_ok-masks.masks c.as_slice.result.now c.is_empty-is_none.result c.as_slice.ensures c.in_ok-masks.ensures
    c.is_empty-is_none.ensures
