use Rattle.std.proofs.Common.{◌≡◌, ◌^◌, map, take}
use Rattle.std.specs.Prelude.{nat_eq}
use Rattle.std.specs.Simd.Lanes.{mask_l}
use Rattle.pair_family.proofs.states.masks.same_row.Given as goal

abbrev pub invariant-loop-other : goal.invariant-loop-other
invariant-loop-other l = record {
  bit : l.bit ≡ 2 ^ l.other-index;
  mask : l.mask ≡ mask_l (map (λ x. nat_eq x l.label) (take l.other-index l.labels));
}
