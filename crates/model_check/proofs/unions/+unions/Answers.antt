use Rattle.model_check.specs.declared.ground.Piece.TheVariants.{Here}
use Rattle.model_check.proofs.Loops.{unions_more}
use Rattle.model_check.proofs.unions.+unions.Goals as goal

pub returns : goal.returns
returns t c =
    unions_more c.args.table.now c.args.pieces.now (Here 0)
    c.if-is_empty.ensures c.in_ok-others.others c.as_slice.result.now c.as_slice.ensures c.in_ok-others.ensures
    c.combine_piece-combined.result c.combine_piece-combined.ensures
