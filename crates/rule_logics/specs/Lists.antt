-- Members of lists that are mapped or filtered, and positions as a set.
use Rattle.std.proofs.Common.{◌≡◌, ℕ, zero, suc, ◌+◌, ◌<◌, ◌≤◌, Bool, true, false, cond, List, [], ◌∷◌, ◌++◌, map}
use Rattle.std.proofs.Common.{Some, None, slice_get, nat_eq, refl, sym, subst, arith, inl, inr, eqb-true}
use Rattle.std.specs.Prelude.{nat_lt, slice_index}
use Rattle.std.specs.List.{filter}
use Rattle.std.specs.List.Sorted.{IsStrictlyIncreasing}
use Rattle.std.proofs.lemmas.Bool.{ltb-true, ltb-false, or_cases, or_right}
use Rattle.std.proofs.lemmas.Option.{same_Some}
use Rattle.trace_pairs.specs.Graph.{IsPositionSet, has}
use Rattle.cyc_basics.proofs.Members.{rises_from, has_first}
use Rattle.rule_logics.specs.Logic.{one_if, positions_from}

-- ---- lists

-- a member of a list, with what its image is
pub record IsImage {X Y : Type 0} (f : X → Y) (xs : List X) (i : ℕ) (y : Y) : Type 0 where
  pub of : X
  pub at : slice_get xs i ≡ Some of
  pub is : f of ≡ y

pub image_at : {X Y : Type 0} (f : X → Y) (xs : List X) (i : ℕ) (y : Y) → slice_get (map f xs) i ≡ Some y
    → IsImage f xs i y
image_at f [] i y at = absurd (let e : None ≡ Some y = at in cc)
image_at f (x ∷ xs) zero y at = record { of = x; at = refl; is = same_Some (f x) y at }
image_at f (x ∷ xs) (suc i) y at = let m = image_at f xs i y at in record { of = m.of; at = m.at; is = m.is }

-- a member that passed a test
pub record HasPassed {X : Type 0} (test : X → Bool) (xs : List X) (x : X) : Type 0 where
  pub place : ℕ
  pub at : slice_get xs place ≡ Some x
  pub passed : test x ≡ true

passed_by : {X : Type 0} (test : X → Bool) (y : X) (ys : List X) (x : X)
    → ((k : ℕ) → slice_get (filter test ys) k ≡ Some x → HasPassed test ys x) →
    (b : Bool) → test y ≡ b → (k : ℕ) → slice_get (cond b (y ∷ filter test ys) (filter test ys)) k ≡ Some x
    → HasPassed test (y ∷ ys) x
passed_by {X} test y ys x others true t zero h = record
    { place = 0; at = h; passed = subst (λ (z : X). test z ≡ true) (same_Some y x h) t }
passed_by test y ys x others true t (suc k) h = let m = others k h in
    record { place = suc m.place; at = m.at; passed = m.passed }
passed_by test y ys x others false t k h = let m = others k h in
    record { place = suc m.place; at = m.at; passed = m.passed }

pub passed_at : {X : Type 0} (test : X → Bool) (xs : List X) (i : ℕ) (x : X) → slice_get (filter test xs) i ≡ Some x
    → HasPassed test xs x
passed_at test [] i x at = absurd (let e : None ≡ Some x = at in cc)
passed_at test (y ∷ ys) i x at = passed_by test y ys x (λ k h. passed_at test ys k x h) (test y) refl i at

-- ---- positions

-- they stand from k on, below the end
within_by : (b : Bool) (n k q : ℕ) (others : List ℕ) → (has others q ≡ true → (suc k ≤ q) × (q < suc k + n))
    → has (one_if b k ++ others) q ≡ true → (k ≤ q) × (q < k + suc n)
within_by true n k q others h is =
    elim (or_cases (nat_eq k q) (has others q) is) [
      | inl e ↦ (let same : k ≡ q = eqb-true k q e in (omega (arith, same), omega (arith, same)))
      | inr m ↦ (let r = h m in (omega (arith, r.0), omega (arith, r.1)))
    ]
within_by false n k q others h is = let r = h is in (omega (arith, r.0), omega (arith, r.1))

positions_within : (test : ℕ → Bool) (n k q : ℕ) → has (positions_from test n k) q ≡ true → (k ≤ q) × (q < k + n)
unfolding positions_from
positions_within test zero k q h = absurd (let e : false ≡ true = h in cc)
positions_within test (suc n) k q h =
    within_by (test k) n k q (positions_from test n (suc k)) (λ m. positions_within test n (suc k) q m) h

rise_by : (b : Bool) (k : ℕ) (others : List ℕ) → ((q : ℕ) → has others q ≡ true → suc k ≤ q)
    → IsStrictlyIncreasing others → IsStrictlyIncreasing (one_if b k ++ others)
rise_by true k others above rise zero l = rises_from k others above l
rise_by true k others above rise (suc i) l =
    let next : suc (i + 1) ≡ suc i + 1 = omega arith in
    subst (λ m. slice_index (k ∷ others) (suc i) < slice_index (k ∷ others) m) next (rise i (omega (arith, l)))
rise_by false k others above rise i l = rise i l

positions_rise : (test : ℕ → Bool) (n k : ℕ) → IsStrictlyIncreasing (positions_from test n k)
unfolding positions_from
positions_rise test zero k i l = absurd (omega (arith, l))
positions_rise test (suc n) k i l =
    rise_by (test k) k (positions_from test n (suc k)) (λ q h. (positions_within test n (suc k) q h).0)
    (positions_rise test n (suc k)) i l

pub positions_set : (test : ℕ → Bool) → IsPositionSet (positions_from test 32 0)
positions_set test = (positions_rise test 32 0, λ q h. (let r = positions_within test 32 0 q h in omega (arith, r.1)))

-- one that passes is among them
behind : (b : Bool) (k q : ℕ) (others : List ℕ) → has others q ≡ true → has (one_if b k ++ others) q ≡ true
behind true k q others h = or_right (nat_eq k q) (has others q) h
behind false k q others h = h

first : (b : Bool) (k : ℕ) (others : List ℕ) → b ≡ true → has (one_if b k ++ others) k ≡ true
first true k others e = has_first k others
first false k others e = absurd (cc)

in_by : (test : ℕ → Bool) (k q : ℕ) (others : List ℕ) → k ≤ q → test q ≡ true → (k < q → has others q ≡ true)
    → (b : Bool) → nat_lt k q ≡ b → has (one_if (test k) k ++ others) q ≡ true
in_by test k q others low t h true l = behind (test k) k q others (h (ltb-true k q l))
in_by test k q others low t h false l =
    let below = ltb-false k q l in
    let same : q ≡ k = omega (arith, below, low) in
    subst (λ m. has (one_if (test k) k ++ others) m ≡ true) (sym same)
    (first (test k) k others (subst (λ m. test m ≡ true) same t))

pub position_in : (test : ℕ → Bool) (n k q : ℕ) → k ≤ q → q < k + n → test q ≡ true
    → has (positions_from test n k) q ≡ true
unfolding positions_from
position_in test zero k q low high t = absurd (omega (arith, low, high))
position_in test (suc n) k q low high t =
    in_by test k q (positions_from test n (suc k)) low t
    (λ above. position_in test n (suc k) q (omega (arith, above)) (omega (arith, high)) t) (nat_lt k q) refl
