-- Tests that say the same, and what tests on numbers and texts tell.
use Rattle.std.proofs.Common.{◌≡◌, ℕ, ◌≤◌, Bool, true, false, not, List, [], ◌∷◌, refl, sym, arith}
use Rattle.std.specs.Prelude.{nat_le, nat_eq}
use Rattle.std.specs.Str.{bytes_eq}
use Rattle.std.specs.Cmp.Lexicographic.{pointwise}
use Rattle.std.proofs.lemmas.Bool.{leb-true, le-leb, and_parts, and_from, both_ways}
use Rattle.std.proofs.lemmas.Bool.Decides.{nat_tests}
use Rattle.std.proofs.lemmas.Slice.Eq.{bytes_eq-Decides}

pub bool_same : (p q : Bool) → (p ≡ true → q ≡ true) → (q ≡ true → p ≡ true) → p ≡ q
bool_same true q f g = sym (f refl)
bool_same false true f g = g refl
bool_same false false f g = refl

pub le_same : (a b c d : ℕ) → (a ≤ b → c ≤ d) → (c ≤ d → a ≤ b) → nat_le a b ≡ nat_le c d
le_same a b c d f g =
    bool_same (nat_le a b) (nat_le c d) (λ e. le-leb c d (f (leb-true a b e))) (λ e. le-leb a b (g (leb-true c d e)))

pub equal_numbers : (m n : ℕ) → not (nat_eq m n) ≡ false → m ≡ n
equal_numbers m n e = grind (arith, nat_tests)

pub other_text : (s t : List ℕ) → (t ≡ s → ⊥) → bytes_eq s t ≡ false
other_text s t h = by_test (bytes_eq s t) refl
  where
    by_test : (b : Bool) → bytes_eq s t ≡ b → b ≡ false
    by_test true e = absurd (h (sym ((bytes_eq-Decides s t).0 e)))
    by_test false e = refl

-- ---- a test on the members of two lists in turn

pub pointwise_is : {X : Type 0} (same : X → X → Bool) → ((x y : X) → same x y ≡ true → x ≡ y) → (xs ys : List X)
    → pointwise same xs ys ≡ true → xs ≡ ys
pointwise_is same one [] [] e = refl
pointwise_is same one [] (y ∷ ys) e = absurd (both_ways false refl e)
pointwise_is same one (x ∷ xs) [] e = absurd (both_ways false refl e)
pointwise_is same one (x ∷ xs) (y ∷ ys) e =
    let b = and_parts (same x y) (pointwise same xs ys) e in
    let p = one x y b.0 in
    let q = pointwise_is same one xs ys b.1 in λ i. p i ∷ q i

pub pointwise_self : {X : Type 0} (same : X → X → Bool) → ((x : X) → same x x ≡ true) → (xs : List X)
    → pointwise same xs xs ≡ true
pointwise_self same one [] = refl
pointwise_self same one (x ∷ xs) = and_from (same x x) (pointwise same xs xs) (one x) (pointwise_self same one xs)
