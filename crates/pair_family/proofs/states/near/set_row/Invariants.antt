use Rattle.std.proofs.Common.{◌≡◌, ◌^◌, map, take}
use Rattle.std.specs.Simd.Lanes.{mask_l}
use Rattle.cyc_basics.specs.Bits.{is_one}
use Rattle.pair_family.proofs.states.near.set_row.Given as goal

abbrev pub invariant-loop-label : goal.invariant-loop-label
invariant-loop-label l = record {
  bit : l.bit ≡ 2 ^ l.label-index;
  mask : l.mask ≡ mask_l (map (is_one l.set) (take l.label-index l.labels));
}
