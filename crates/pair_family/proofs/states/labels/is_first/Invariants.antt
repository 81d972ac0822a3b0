use Rattle.std.proofs.Common.{◌≡◌}
use Rattle.std.specs.Prelude.{nat_eq, slice_index}
use Rattle.std.specs.List.{list_any}
use Rattle.pair_family.specs.Combination.{upto}
use Rattle.pair_family.proofs.states.labels.is_first.Given as goal

abbrev pub invariant-loop-j : goal.invariant-loop-j
invariant-loop-j l = l.found ≡ list_any (λ j. nat_eq (slice_index l.labels j) (slice_index l.labels l.i)) (upto l.j)
