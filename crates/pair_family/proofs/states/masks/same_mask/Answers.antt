use Rattle.std.proofs.Common.{◌≡◌, ◌<◌, ◌∙◌, arith, length}
use Rattle.pair_family.specs.Labels.{has_same}
use Rattle.pair_family.proofs.MaskBits.{mask_fits, mask_more, bits_more, whole_within, whole_pairs, same_rows}
use Rattle.pair_family.proofs.states.masks.same_mask.Goals as goal

pub overflow_add-mask : goal.overflow_add-mask
overflow_add-mask c =
    let l : c.loop-j.j < 11 = omega (arith, c.loop-j-test.true, c.requires) in
    record {
      fits = mask_fits (has_same c.args.labels.now) c.loop-j.j c.loop-j.bits c.loop-j.mask c.same_row.result l
          c.loop-j.invariant.bits c.loop-j.invariant.mask
          (c.same_row.ensures ∙ same_rows c.args.labels.now c.loop-j.j c.loop-j-test.true);
    }

pub loop-j-preserved : goal.loop-j-preserved
loop-j-preserved c =
    let l : c.loop-j.j < 11 = omega (arith, c.loop-j-test.true, c.requires) in
    record {
      bits = bits_more c.loop-j.j c.loop-j.bits c.loop-j.invariant.bits;
      mask = mask_more (has_same c.args.labels.now) c.loop-j.j c.loop-j.bits c.loop-j.mask c.same_row.result l
          c.loop-j.invariant.bits c.loop-j.invariant.mask
          (c.same_row.ensures ∙ same_rows c.args.labels.now c.loop-j.j c.loop-j-test.true);
    }

pub returns-clause-within : goal.returns-clause-within
returns-clause-within c =
    whole_within (has_same c.args.labels.now) c.loop-j.j c.loop-j.mask
    (omega (arith, c.requires, c.loop-j.auto.j-end)) c.loop-j.invariant.mask

pub returns-clause-pairs : goal.returns-clause-pairs
returns-clause-pairs c =
    let e : c.loop-j.j ≡ length c.args.labels.now = omega (arith, c.loop-j-test.false, c.loop-j.auto.j-end) in
    whole_pairs (has_same c.args.labels.now) c.loop-j.j (length c.args.labels.now) c.loop-j.mask c.requires e
    c.loop-j.invariant.mask
