use Rattle.std.proofs.lemmas.List.{get_or_default}
use Rattle.general_models.specs.Growing.{HasLikeCell}
use Rattle.general_models.proofs.SomeOf.{each_passed}
use Rattle.general_models.proofs.runs.alike.has_like_cells.Goals as goal

pub loop-pair-preserved : goal.loop-pair-preserved
loop-pair-preserved c =
    each_passed (HasLikeCell c.args.pairs.now c.args.one.now c.args.other.now) c.args.pairs.now
    c.loop-pair.pair-index c.loop-pair.invariant _ c.loop-pair-test.true
    (get_or_default c.args.pairs.now c.loop-pair.pair-index _ _ c.loop-pair-test.true)
    (c.has_like_cell.ensures.0 c.if-not-has_like_cell.false)
