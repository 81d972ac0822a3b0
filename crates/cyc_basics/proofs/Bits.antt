-- Bits.
use Rattle.std.proofs.Common.{◌≡◌, ℕ, zero, suc, ◌<◌, min, max, false, ◌&&◌, ◌||◌, nat_eq, bit_and, bit_or, refl, ap}
use Rattle.std.proofs.Common.{◌∙◌, arith}
use Rattle.std.specs.Int.{bit_at}
use Rattle.std.proofs.lemmas.Nat.Bits.{bit_at-lt, bit_at_and, bit_at_or, bit_at-zero}
use Rattle.cyc_basics.specs.Bits.{is_one}

bit_and_min : (x y : ℕ) → x < 2 → y < 2 → nat_eq (min x y) 1 ≡ (nat_eq x 1 && nat_eq y 1)
bit_and_min zero zero a b = refl
bit_and_min zero (suc zero) a b = refl
bit_and_min (suc zero) zero a b = refl
bit_and_min (suc zero) (suc zero) a b = refl
bit_and_min (suc (suc x)) y a b = absurd (omega arith)
bit_and_min x (suc (suc y)) a b = absurd (omega arith)

bit_or_max : (x y : ℕ) → x < 2 → y < 2 → nat_eq (max x y) 1 ≡ (nat_eq x 1 || nat_eq y 1)
bit_or_max zero zero a b = refl
bit_or_max zero (suc zero) a b = refl
bit_or_max (suc zero) zero a b = refl
bit_or_max (suc zero) (suc zero) a b = refl
bit_or_max (suc (suc x)) y a b = absurd (omega arith)
bit_or_max x (suc (suc y)) a b = absurd (omega arith)

pub one_and : (a b q : ℕ) → is_one (bit_and a b) q ≡ (is_one a q && is_one b q)
one_and a b q = ap (λ x. nat_eq x 1) (bit_at_and a b q)
    ∙ bit_and_min (bit_at a q) (bit_at b q) (bit_at-lt a q) (bit_at-lt b q)

pub one_or : (a b q : ℕ) → is_one (bit_or a b) q ≡ (is_one a q || is_one b q)
one_or a b q = ap (λ x. nat_eq x 1) (bit_at_or a b q)
    ∙ bit_or_max (bit_at a q) (bit_at b q) (bit_at-lt a q) (bit_at-lt b q)

pub one_zero : (q : ℕ) → is_one 0 q ≡ false
one_zero q = ap (λ x. nat_eq x 1) (bit_at-zero q)
