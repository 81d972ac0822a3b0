use Rattle.std.proofs.Common.{◌≡◌, ◌<◌, ◌≤◌, ◌∙◌, arith, length}
use Rattle.pair_family.specs.Combination.{pairs_below}
use Rattle.pair_family.specs.Labels.{has_difference}
use Rattle.pair_family.proofs.MaskBits.{mask_fits, mask_more, bits_more, whole_within, whole_pairs, near_rows, few_pairs}
use Rattle.pair_family.proofs.states.near.near_mask.Goals as goal

pub overflow_shl-mask : goal.overflow_shl-mask
overflow_shl-mask c =
    let few : length (pairs_below c.loop-j.j) ≤ 55 = few_pairs c.loop-j.j
    (omega (arith, c.loop-j-test.true, c.requires.few)) in
    omega (arith, few, c.loop-j.invariant.bits)

pub overflow_add-bits : goal.overflow_add-bits
overflow_add-bits c =
    let few : length (pairs_below c.loop-j.j) ≤ 55 = few_pairs c.loop-j.j
    (omega (arith, c.loop-j-test.true, c.requires.few)) in
    record { fits = omega (arith, few, c.loop-j.invariant.bits, c.loop-j-test.true, c.requires.few) }

pub overflow_add-mask : goal.overflow_add-mask
overflow_add-mask c =
    let l : c.loop-j.j < 11 = omega (arith, c.loop-j-test.true, c.requires.few) in
    record {
      fits = mask_fits (has_difference c.args.labels.now c.args._differences.now) c.loop-j.j c.loop-j.bits c.loop-j.mask
          c.set_row.result l c.loop-j.invariant.bits c.loop-j.invariant.mask
          (c.set_row.ensures ∙ near_rows c.args.labels.now c.args._differences.now c.args.near.now c.loop-j.j
          c.loop-j-test.true c.requires.near c.requires.small);
    }

pub loop-j-preserved : goal.loop-j-preserved
loop-j-preserved c =
    let l : c.loop-j.j < 11 = omega (arith, c.loop-j-test.true, c.requires.few) in
    record {
      bits = bits_more c.loop-j.j c.loop-j.bits c.loop-j.invariant.bits;
      mask = mask_more (has_difference c.args.labels.now c.args._differences.now) c.loop-j.j c.loop-j.bits c.loop-j.mask
          c.set_row.result l c.loop-j.invariant.bits c.loop-j.invariant.mask
          (c.set_row.ensures ∙ near_rows c.args.labels.now c.args._differences.now c.args.near.now c.loop-j.j
          c.loop-j-test.true c.requires.near c.requires.small);
    }

pub returns-clause-within : goal.returns-clause-within
returns-clause-within c =
    whole_within (has_difference c.args.labels.now c.args._differences.now) c.loop-j.j c.loop-j.mask
    (omega (arith, c.requires.few, c.loop-j.auto.j-end)) c.loop-j.invariant.mask

pub returns-clause-pairs : goal.returns-clause-pairs
returns-clause-pairs c =
    let e : c.loop-j.j ≡ length c.args.labels.now = omega (arith, c.loop-j-test.false, c.loop-j.auto.j-end) in
    whole_pairs (has_difference c.args.labels.now c.args._differences.now) c.loop-j.j (length c.args.labels.now)
    c.loop-j.mask c.requires.few e c.loop-j.invariant.mask
