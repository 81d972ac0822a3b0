use Rattle.std.proofs.Common.{ℕ, ◌≡◌, ◌<◌, ◌||◌, drop, length, get_or}
use Rattle.std.specs.List.{list_any}
use Rattle.cyc_basics.specs.Bits.{is_one}
use Rattle.pair_family.specs.Labels.{is_between_labels}
use Rattle.pair_family.proofs.states.near.set_near.Given as goal

abbrev pub invariant-loop-difference : goal.invariant-loop-difference
invariant-loop-difference l = record {
  long : length l.near ≡ 64;
  right : (p q : ℕ) → p < 64 → q < 64 → (is_one (get_or l.near p 0) q || list_any (is_between_labels q p)
      (drop l.difference-index l.differences)) ≡ list_any (is_between_labels q p) l.differences;
}
