use Rattle.std.proofs.Common.{◌≡◌, ◌<◌, ◌^◌, drop}
use Rattle.std.specs.Cmp.Lexicographic.{pointwise}
use Rattle.pair_family.specs.Equality.{two_eq}
use Rattle.pair_family.specs.Masks.{pairs_in}
use Rattle.pair_family.proofs.states.masks.has_pairs.Given as goal

abbrev pub invariant-loop-pair : goal.invariant-loop-pair
invariant-loop-pair l = record {
  within : l.rest < 2 ^ 55;
  same : pointwise two_eq (pairs_in l.rest) (drop l.pair-index l.pairs) ≡ pointwise two_eq (pairs_in l.mask) l.pairs;
}
