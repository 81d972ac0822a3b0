-- Position after position.
use Rattle.buchi_core.proofs.Bits.{members_set, position_more, position_end}
use Rattle.buchi_core.proofs.masks.mask_of.Goals as goal

pub loop-position-preserved : goal.loop-position-preserved
loop-position-preserved c q l =
    position_more c.args.positions.now c.loop-position.mask c.bit_of-mask.result c.loop-position.position-index q 0
    c.loop-position-test.true (c.bit_of-mask.ensures q l) (c.loop-position.invariant q l)

pub returns : goal.returns
returns c =
    members_set c.loop-position.mask c.args.positions.now c.requires
    (λ q l. position_end c.args.positions.now c.loop-position.mask c.loop-position.position-index q
    c.loop-position-test.false (c.loop-position.invariant q l))
