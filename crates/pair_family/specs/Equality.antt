-- What `==` computes of two base pairs.
use Rattle.std.specs.Prelude.{◌≡◌, ℕ, Bool, true, ◌&&◌, ◌+◌, ◌*◌, ◌%◌, ◌^◌, ◌-◌, ◌/◌, List, [], ◌∷◌, nat_eq, refl}
use Rattle.std.specs.Prelude.{nat_lt, if◌then◌else◌}
use Rattle.std.proofs.Common.{subst, ap}
use Rattle.std.proofs.lemmas.Bool.{and_parts, and_from, eqb-true, eq-eqb}
use Rattle.std.specs.Bool.{Decides}
use Rattle.std.specs.Hash as fed
use Rattle.std.specs.Hash.{HashWrites}
use Rattle.std.specs.Cmp.{IsPartialEquivalence, IsEquivalence, decided, partial_equiv_from_equiv}
use Rattle.std.specs.Cmp.Lexicographic.{pointwise}
use Rattle.cyc_basics.proofs.Tests.{pointwise_is, pointwise_self}
use Rattle.pair_family.specs.BasePairs.{BasePair}

abbrev pub two_eq : ℕ × ℕ → ℕ × ℕ → Bool
two_eq x y = nat_eq x.0 y.0 && nat_eq x.1 y.1

abbrev pub base_pair_eq : BasePair → BasePair → Bool
base_pair_eq a b = pointwise two_eq a.same b.same &&
    (pointwise two_eq a.differ b.differ && pointwise nat_eq a.cells b.cells)

two_same : (x y : ℕ × ℕ) → two_eq x y ≡ true → x ≡ y
two_same x y h =
    let p = and_parts (nat_eq x.0 y.0) (nat_eq x.1 y.1) h in
    let a : x.0 ≡ y.0 = eqb-true x.0 y.0 p.0 in
    let b : x.1 ≡ y.1 = eqb-true x.1 y.1 p.1 in λ i. (a i, b i)

pub two_refl : (x : ℕ × ℕ) → two_eq x x ≡ true
two_refl x = and_from (nat_eq x.0 x.0) (nat_eq x.1 x.1) (eq-eqb x.0 x.0 refl) (eq-eqb x.1 x.1 refl)

pub pairs_decide : (xs ys : List (ℕ × ℕ)) → Decides (pointwise two_eq xs ys) (xs ≡ ys)
pairs_decide xs ys = (
  pointwise_is two_eq two_same xs ys,
  λ e. subst (λ z. pointwise two_eq xs z ≡ true) e (pointwise_self two_eq two_refl xs),
)

pub pairs_per : IsPartialEquivalence (pointwise two_eq)
pairs_per = partial_equiv_from_equiv (decided (pointwise two_eq) pairs_decide)

pub pair_same : (a b : BasePair) → base_pair_eq a b ≡ true → a ≡ b
pair_same a b h =
    let p = and_parts (pointwise two_eq a.same b.same)
    (pointwise two_eq a.differ b.differ && pointwise nat_eq a.cells b.cells) h in
    let q = and_parts (pointwise two_eq a.differ b.differ) (pointwise nat_eq a.cells b.cells) p.1 in
    let s = pointwise_is two_eq two_same a.same b.same p.0 in
    let d = pointwise_is two_eq two_same a.differ b.differ q.0 in
    let c = pointwise_is nat_eq (λ x y. eqb-true x y) a.cells b.cells q.1 in
    λ i. record { same = s i; differ = d i; cells = c i }

pub pair_refl : (a : BasePair) → base_pair_eq a a ≡ true
pair_refl a =
    and_from (pointwise two_eq a.same a.same) (pointwise two_eq a.differ a.differ && pointwise nat_eq a.cells a.cells)
    (pointwise_self two_eq two_refl a.same) (and_from (pointwise two_eq a.differ a.differ)
    (pointwise nat_eq a.cells a.cells) (pointwise_self two_eq two_refl a.differ)
    (pointwise_self nat_eq (λ x. eq-eqb x x refl) a.cells))

pub base_pair_decides : (a b : BasePair) → Decides (base_pair_eq a b) (a ≡ b)
base_pair_decides a b = (pair_same a b, λ e. subst (λ z. base_pair_eq a z ≡ true) e (pair_refl a))

pub base_pair_equiv : IsEquivalence base_pair_eq
base_pair_equiv = decided base_pair_eq base_pair_decides

pub base_pair_per : IsPartialEquivalence base_pair_eq
base_pair_per = partial_equiv_from_equiv base_pair_equiv

-- ---- what `hash` feeds

-- a digest after one more number
abbrev pub with_number : ℕ → ℕ → ℕ
with_number h n = (h + n) % 2 ^ 64 * 11400714819323198485 % 2 ^ 64

-- a digest of numbers, and of pairs, in their order, after what was digested before
abbrev pub digest_from : ℕ → List ℕ → ℕ
digest_from h [] = h
digest_from h (n ∷ ns) = digest_from (with_number h n) ns

abbrev pub numbers_digest : List ℕ → ℕ
numbers_digest ns = digest_from 0 ns

-- what a pair adds to a digest of pairs: the bit that it has in a mask, if it has one
abbrev pub pair_weight : ℕ × ℕ → ℕ
pair_weight q =
    if nat_lt q.0 q.1 && nat_lt q.1 11 then 2 ^ (q.1 * (q.1 - 1) / 2 + q.0) else with_number (with_number 0 q.0) q.1

abbrev pub pairs_digest_from : ℕ → List (ℕ × ℕ) → ℕ
pairs_digest_from h [] = h
pairs_digest_from h (q ∷ qs) = pairs_digest_from ((h + pair_weight q) % 2 ^ 64) qs

abbrev pub pairs_digest : List (ℕ × ℕ) → ℕ
pairs_digest qs = pairs_digest_from 0 qs

abbrev pub base_pair_writes : BasePair → HashWrites
base_pair_writes b = fed.u64 (with_number (with_number (with_number 0 (pairs_digest b.same)) (pairs_digest b.differ))
    (numbers_digest b.cells))

pub base_pair_alike : (a b : BasePair) → base_pair_eq a b ≡ true → base_pair_writes a ≡ base_pair_writes b
base_pair_alike a b h = ap base_pair_writes (pair_same a b h)
