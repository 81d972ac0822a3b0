use Rattle.std.proofs.Common.{ℕ, ◌≡◌, ◌<◌, ◌||◌, drop}
use Rattle.buchi_core.specs.Forest.{has}
use Rattle.cyc_basics.specs.declared.limits.TheConstants.{MOST_POSITIONS}
use Rattle.cyc_basics.specs.Bits.{is_one}
use Rattle.buchi_core.proofs.masks.mask_of.Given as goal

abbrev pub invariant-loop-position : goal.invariant-loop-position
invariant-loop-position l = (q : ℕ) → q < MOST_POSITIONS
    → (is_one l.mask q || has (drop l.position-index l.positions) q) ≡ has l.positions q
