use Rattle.model_check.specs.WideMasks.{number}
use Rattle.model_check.specs.Ground.{Unions}
use Rattle.model_check.specs.Tables.{HasMask}
use Rattle.model_check.proofs.Exact.{given}
use Rattle.model_check.proofs.satisfaction.is_given.Goals as goal

pub returns : goal.returns
returns c =
    given (Unions (HasMask c.args.table.now) c.args.pieces.now) c.in_ok-masks.masks c.as_slice.result.now
    (number c.args.mask.now)
    c.has_mask-given.result c.as_slice.ensures c.in_ok-masks.ensures c.has_mask-given.ensures
