use Rattle.std.proofs.Common.{◌≡◌, arith, ◌∙◌}
use Rattle.std.specs.Cmp.Lexicographic.{pointwise}
use Rattle.pair_family.specs.Equality.{two_eq}
use Rattle.pair_family.specs.Masks.{pairs_in}
use Rattle.pair_family.proofs.MaskBits.{none_left, empty_mask}
use Rattle.pair_family.proofs.MaskLoops.{mask_ends, list_ends}
use Rattle.pair_family.proofs.states.masks.has_pairs.Goals as goal

pub returns-then-rest-eq0 : goal.returns-then-rest-eq0
returns-then-rest-eq0 c =
    let e : c.loop-pair.rest ≡ 0 = omega (arith, c.if-rest-eq0.true) in
    mask_ends (pairs_in c.loop-pair.rest) c.args.pairs.now c.loop-pair.pair-index (0, 0)
    (pointwise two_eq (pairs_in c.args.mask) c.args.pairs.now) (none_left c.loop-pair.rest e) c.loop-pair-test.true
    c.loop-pair.invariant.same

pub returns : goal.returns
returns c =
    empty_mask c.loop-pair.rest c.loop-pair.invariant.within
    ∙ list_ends (pairs_in c.loop-pair.rest) c.args.pairs.now c.loop-pair.pair-index
    (pointwise two_eq (pairs_in c.args.mask) c.args.pairs.now) (omega (arith, c.loop-pair-test.false))
    c.loop-pair.invariant.same
