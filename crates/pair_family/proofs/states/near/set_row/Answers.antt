use Rattle.cyc_basics.specs.Bits.{is_one}
use Rattle.pair_family.proofs.MaskBits.{row_fits, row_more, bit_more}
use Rattle.pair_family.proofs.states.near.set_row.Goals as goal

pub overflow_add-mask : goal.overflow_add-mask
overflow_add-mask c = record {
  fits = (row_fits (is_one c.args.set) c.args.labels.now c.loop-label.label-index c.loop-label.mask c.loop-label.bit
      c.bit_if-mask.result c.has_bit.result c.loop-label-test.true c.requires.few c.loop-label.invariant.bit
      c.loop-label.invariant.mask c.bit_if-mask.ensures).0;
}

pub overflow_mul-bit : goal.overflow_mul-bit
overflow_mul-bit c = record {
  fits = (row_fits (is_one c.args.set) c.args.labels.now c.loop-label.label-index c.loop-label.mask c.loop-label.bit
      c.bit_if-mask.result c.has_bit.result c.loop-label-test.true c.requires.few c.loop-label.invariant.bit
      c.loop-label.invariant.mask c.bit_if-mask.ensures).1;
}

pub loop-label-preserved : goal.loop-label-preserved
loop-label-preserved c = record {
  bit = bit_more c.loop-label.label-index c.loop-label.bit c.loop-label.invariant.bit;
  mask = row_more (is_one c.args.set) c.args.labels.now c.loop-label.label-index c.loop-label.mask c.loop-label.bit
      c.bit_if-mask.result c.has_bit.result c.loop-label-test.true c.loop-label.invariant.bit
      c.loop-label.invariant.mask c.has_bit.ensures c.bit_if-mask.ensures;
}
