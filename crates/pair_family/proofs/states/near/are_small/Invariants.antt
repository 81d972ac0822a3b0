use Rattle.std.proofs.Common.{ℕ, ◌<◌}
use Rattle.std.specs.Prelude.{slice_index}
use Rattle.pair_family.proofs.states.near.are_small.Given as goal

abbrev pub invariant-loop-label : goal.invariant-loop-label
invariant-loop-label l = (i : ℕ) → i < l.label-index → slice_index l.labels i < 64
