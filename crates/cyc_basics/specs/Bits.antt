-- Words on the bits of a number.
use Rattle.std.specs.Prelude.{ℕ, Bool, nat_eq}
use Rattle.std.specs.Int.{bit_at}

-- bit q of the mask is a one
abbrev pub is_one : ℕ → ℕ → Bool
is_one mask q = nat_eq (bit_at mask q) 1
