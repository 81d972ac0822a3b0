use Rattle.std.proofs.Common.{◌∙◌, sym, arith, get_or}
use Rattle.frames.proofs.LastPlaces.{one_passed, all_passed, last_within}
use Rattle.frames.proofs.questions.places.last_place.Goals as goal

pub loop-place-preserved : goal.loop-place-preserved
loop-place-preserved c =
    rw (c.last_so_far-last.ensures, c.is_comment_after-comment.ensures) (
      c.loop-place.invariant.0
          ∙ one_passed c.args.kind c.loop-place.comment c.loop-place.place c.loop-place.last c.args.text.now
          c.loop-place-test.true,
      last_within c.args.kind c.loop-place.comment c.loop-place.place _ c.loop-place.last
          (get_or c.args.text.now c.loop-place.place 0) c.loop-place-test.true c.loop-place.invariant.1,
    )

pub returns-clause-value : goal.returns-clause-value
returns-clause-value c =
    sym (c.loop-place.invariant.0
    ∙ all_passed c.args.kind c.loop-place.comment c.loop-place.place c.loop-place.last c.args.text.now
    (omega (arith, c.loop-place-test.false)))
