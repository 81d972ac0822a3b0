use Rattle.std.proofs.Common.{ℕ, nat_eq, get_or, refl}
use Rattle.pair_family.proofs.MaskBits.{row_fits, row_more, bit_more}
use Rattle.pair_family.proofs.states.masks.same_row.Goals as goal

pub overflow_add-mask : goal.overflow_add-mask
overflow_add-mask c = record {
  fits = (row_fits (λ (x : ℕ). nat_eq x c.args.label) c.args.labels.now c.loop-other.other-index c.loop-other.mask
      c.loop-other.bit c.bit_if-mask.result
      (nat_eq (get_or c.args.labels.now c.loop-other.other-index 0) c.args.label) c.loop-other-test.true c.requires
      c.loop-other.invariant.bit c.loop-other.invariant.mask c.bit_if-mask.ensures).0;
}

pub overflow_mul-bit : goal.overflow_mul-bit
overflow_mul-bit c = record {
  fits = (row_fits (λ (x : ℕ). nat_eq x c.args.label) c.args.labels.now c.loop-other.other-index c.loop-other.mask
      c.loop-other.bit c.bit_if-mask.result
      (nat_eq (get_or c.args.labels.now c.loop-other.other-index 0) c.args.label) c.loop-other-test.true c.requires
      c.loop-other.invariant.bit c.loop-other.invariant.mask c.bit_if-mask.ensures).1;
}

pub loop-other-preserved : goal.loop-other-preserved
loop-other-preserved c = record {
  bit = bit_more c.loop-other.other-index c.loop-other.bit c.loop-other.invariant.bit;
  mask = row_more (λ (x : ℕ). nat_eq x c.args.label) c.args.labels.now c.loop-other.other-index c.loop-other.mask
      c.loop-other.bit c.bit_if-mask.result
      (nat_eq (get_or c.args.labels.now c.loop-other.other-index 0) c.args.label) c.loop-other-test.true
      c.loop-other.invariant.bit c.loop-other.invariant.mask refl c.bit_if-mask.ensures;
}
