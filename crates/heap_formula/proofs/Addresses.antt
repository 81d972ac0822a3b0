-- Addresses that differ.
use Rattle.std.proofs.Common.{◌≡◌, ◌≢◌, ℕ, Bool, true, false, refl}
use Rattle.std.specs.Ordering.{nat_cmp, eq_by_cmp}
use Rattle.heap_formula.proofs.Insertions.{same_address}

pub other_address : (q a : ℕ) → q ≢ a → eq_by_cmp nat_cmp q a ≡ false
other_address q a n = by_test (eq_by_cmp nat_cmp q a) refl
  where
    by_test : (b : Bool) → eq_by_cmp nat_cmp q a ≡ b → b ≡ false
    by_test true e = absurd (n (same_address q a e))
    by_test false e = refl
