use Rattle.std.proofs.Common.{◌≡◌, map, length}
use Rattle.std.specs.Simd.Lanes.{mask_l}
use Rattle.pair_family.specs.Combination.{pairs_below}
use Rattle.pair_family.specs.Labels.{has_difference}
use Rattle.pair_family.proofs.states.near.near_mask.Given as goal

abbrev pub invariant-loop-j : goal.invariant-loop-j
invariant-loop-j l = record {
  bits : l.bits ≡ length (pairs_below l.j);
  mask : l.mask ≡ mask_l (map (has_difference l.labels l._differences) (pairs_below l.j));
}
