-- Left sides that are changed, with their stages and pairs; and right sides.
use Rattle.std.proofs.Common.{◌≡◌, ℕ, zero, suc, ◌+◌, ◌<◌, ◌≤◌, ◌⊎◌, List, [], ◌∷◌, ◌++◌, map, length, Some, slice_get}
use Rattle.std.proofs.Common.{refl, ap, ◌∙◌, subst, arith, inl, inr}
use Rattle.std.specs.Prelude.{slice_set}
use Rattle.heap_formula.specs.Words.{Each, OneOf}
use Rattle.heap_formula.specs.Meaning.{Stages}
use Rattle.heap_formula.specs.Judgements.{Follows}
use Rattle.heap_formula.specs.Positions.{without, before}
use Rattle.fo_formula.specs.declared.atoms.FoAtom.{FoAtom}
use Rattle.fo_formula.specs.declared.atoms.FoAtom.TheVariants.{Equation, Predicate}
use Rattle.fo_formula.specs.declared.theory.FoTheory.{FoTheory}
use Rattle.fo_formula.specs.Words.{Word}
use Rattle.fo_formula.specs.Meaning.{Family, AtomHolds, at_stage}
use Rattle.fo_formula.specs.Validity.{LeftHolds}
use Rattle.fo_formula.specs.Traces.{pairs_from, child_pairs}

-- the stages of a list, and then those of another
abbrev pub then_stages : {X : Type 0} → List X → Stages → Stages → Stages
then_stages [] first others k = others k
then_stages (x ∷ xs) first others zero = first zero
then_stages (x ∷ xs) first others (suc k) = then_stages xs (λ m. first (suc m)) others k

pub then_stages-first : {X : Type 0} (xs : List X) (first others : Stages) (k : ℕ) → k < length xs
    → then_stages xs first others k ≡ first k
then_stages-first [] first others k h = absurd (omega arith)
then_stages-first (x ∷ xs) first others zero h = refl
then_stages-first (x ∷ xs) first others (suc k) h = then_stages-first xs (λ m. first (suc m)) others k (omega arith)

pub then_stages-others : {X : Type 0} (xs : List X) (first others : Stages) (k : ℕ)
    → then_stages xs first others (length xs + k) ≡ others k
then_stages-others [] first others k = ap others (omega arith)
then_stages-others (x ∷ xs) first others k =
    let e : length (x ∷ xs) + k ≡ suc (length xs + k) = omega arith in
    ap (then_stages (x ∷ xs) first others) e ∙ then_stages-others xs (λ m. first (suc m)) others k

module _ (v : List Word) where
  pub left_without : (P : ℕ → Family) (i : ℕ) (xs : List FoAtom) → LeftHolds P v xs
      → LeftHolds (λ k. P (before i k)) v (without i xs)
  left_without P i [] h = tt
  left_without P zero (x ∷ xs) h = h.1
  left_without P (suc i) (x ∷ xs) h = (h.0, left_without (λ k. P (suc k)) i xs h.1)

  pub left_at : (P : ℕ → Family) (xs : List FoAtom) (i : ℕ) (x : FoAtom) → slice_get xs i ≡ Some x → LeftHolds P v xs
      → AtomHolds (P i) v [] x
  left_at P [] i x at h = absurd cc
  left_at P (y ∷ xs) zero x at h = let same : y ≡ x = cc in subst (AtomHolds (P 0) v []) same h.0
  left_at P (y ∷ xs) (suc i) x at h = left_at (λ k. P (suc k)) xs i x at h.1

  pub left_each : (P : Family) (xs : List FoAtom) → Each (AtomHolds P v []) xs → LeftHolds (λ _. P) v xs
  left_each P [] h = tt
  left_each P (x ∷ xs) h = (h.0, left_each P xs h.1)

  pub left_append : (t : FoTheory) (xs ys : List FoAtom) (first others : Stages)
      → LeftHolds (λ k. at_stage t (first k)) v xs → LeftHolds (λ k. at_stage t (others k)) v ys
      → LeftHolds (λ k. at_stage t (then_stages xs first others k)) v (xs ++ ys)
  left_append t [] ys first others h k = k
  left_append t (x ∷ xs) ys first others h k =
      (h.0, left_append t xs ys (λ m. first (suc m)) others h.1 k)

-- each atom changed, under another valuation
pub left_changed : (v w : List Word) (g : FoAtom → FoAtom) (Q : FoAtom → Type 0)
    → ((P : Family) (x : FoAtom) → Q x → AtomHolds P v [] x → AtomHolds P w [] (g x))
    → (P : ℕ → Family) (xs : List FoAtom) → Each Q xs → LeftHolds P v xs → LeftHolds P w (map g xs)
left_changed v w g Q f P [] q h = tt
left_changed v w g Q f P (x ∷ xs) q h =
    (f (P 0) x q.0 h.0, left_changed v w g Q f (λ k. P (suc k)) xs q.1 h.1)

-- ---- pairs

pub pairs_follow_if : (old : ℕ → ℕ) (stages below : Stages) (n : ℕ) (xs : List FoAtom)
    → ((i : ℕ) → i < length xs → below (n + i) ≤ stages (old (n + i))) → Follows (pairs_from old n xs) stages below
pairs_follow_if old stages below n [] f = tt
pairs_follow_if old stages below n (Equation l r ∷ xs) f =
    pairs_follow_if old stages below (suc n) xs (λ i h. let e : n + suc i ≡ suc n + i = omega arith in
    subst (λ m. below m ≤ stages (old m)) e (f (suc i) (omega arith)))
pairs_follow_if old stages below n (Predicate p ts ∷ xs) f =
    let here : below n ≤ stages (old n) = let e : n + 0 ≡ n = omega arith in
    subst (λ m. below m ≤ stages (old m)) e (f 0 (omega arith)) in (
      here,
      pairs_follow_if old stages below (suc n) xs
          (λ i h. let e : n + suc i ≡ suc n + i = omega arith in
          subst (λ m. below m ≤ stages (old m)) e (f (suc i) (omega arith))),
    )

-- the stages that the pairs lead to
pub pairs_follow : (old : ℕ → ℕ) (stages : Stages) (n : ℕ) (xs : List FoAtom)
    → Follows (pairs_from old n xs) stages (λ k. stages (old k))
pairs_follow old stages n xs = pairs_follow_if old stages (λ k. stages (old k)) n xs (λ i h. omega arith)

pub children_follow : (k : ℕ) (stages below : Stages) (n : ℕ) (xs : List FoAtom)
    → ((i : ℕ) → i < length xs → below (n + i) < stages k) → Follows (child_pairs k n xs) stages below
children_follow k stages below n [] f = tt
children_follow k stages below n (Equation l r ∷ xs) f =
    children_follow k stages below (suc n) xs (λ i h. let e : n + suc i ≡ suc n + i = omega arith in
    subst (λ m. below m < stages k) e (f (suc i) (omega arith)))
children_follow k stages below n (Predicate p ts ∷ xs) f =
    let here : below n < stages k = let e : n + 0 ≡ n = omega arith in
    subst (λ m. below m < stages k) e (f 0 (omega arith)) in (
      here,
      children_follow k stages below (suc n) xs
          (λ i h. let e : n + suc i ≡ suc n + i = omega arith in
          subst (λ m. below m < stages k) e (f (suc i) (omega arith))),
    )

-- ---- right sides

pub one_without : {X : Type 0} (P : X → Type 0) (j : ℕ) (xs : List X) → OneOf P (without j xs) → OneOf P xs
one_without P j [] o = o
one_without P zero (x ∷ xs) o = inr o
one_without P (suc j) (x ∷ xs) (inl a) = inl a
one_without P (suc j) (x ∷ xs) (inr o) = inr (one_without P j xs o)

pub one_set : {X : Type 0} (P : X → Type 0) (xs : List X) (j : ℕ) (y : X) → OneOf P (slice_set xs j y)
    → OneOf P xs ⊎ P y
one_set P [] j y o = inl o
one_set P (x ∷ xs) zero y (inl a) = inr a
one_set P (x ∷ xs) zero y (inr o) = inl (inr o)
one_set P (x ∷ xs) (suc j) y (inl a) = inl (inl a)
one_set P (x ∷ xs) (suc j) y (inr o) = elim (one_set P xs j y o) [ inl a ↦ inl (inr a) | inr b ↦ inr b ]
