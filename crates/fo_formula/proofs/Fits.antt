-- The trace pairs of every rule join predicate atoms.
use Rattle.std.proofs.Common.{◌≡◌, ℕ, zero, suc, ◌+◌, List, [], ◌∷◌, ◌++◌, map, length, Some, refl, ap, subst, arith}
use Rattle.std.specs.Prelude.{slice_get}
use Rattle.heap_formula.specs.declared.judgements.Pair.{Pair}
use Rattle.heap_formula.specs.Words.{Each}
use Rattle.heap_formula.specs.Positions.{without, before}
use Rattle.fo_formula.specs.declared.terms.Sign.{Sign}
use Rattle.fo_formula.specs.declared.atoms.FoAtom.{FoAtom}
use Rattle.fo_formula.specs.declared.atoms.FoAtom.TheVariants.{Equation, Predicate}
use Rattle.fo_formula.specs.Words.{Word, replaced, in_atom}
use Rattle.fo_formula.specs.Traces.{pairs_from, same_pairs, kept_pairs, child_pairs}
use Rattle.heap_formula.proofs.FactPositions.{get_without}

-- a predicate atom stands at the place
abbrev pub IsPredAt : List FoAtom → ℕ → Type 0
IsPredAt xs k = (q : ℕ) × (ts : List Word) × (slice_get xs k ≡ Some (Predicate q ts))

-- each pair joins predicate atoms of the two lists
abbrev pub PairsFit : List FoAtom → List FoAtom → List Pair → Type 0
PairsFit olds news pairs = Each (λ (p : Pair). IsPredAt olds p.old × IsPredAt news p.new) pairs

-- ---- look-ups

pub pred_front : (xs ys : List FoAtom) (k : ℕ) → IsPredAt xs k → IsPredAt (xs ++ ys) k
pred_front [] ys k p = let e = p.2 in absurd cc
pred_front (x ∷ xs) ys zero p = p
pred_front (x ∷ xs) ys (suc k) p = pred_front xs ys k p

pub pred_back : (xs ys : List FoAtom) (k : ℕ) → IsPredAt ys k → IsPredAt (xs ++ ys) (length xs + k)
pred_back [] ys k p = let z : k ≡ 0 + k = omega arith in subst (IsPredAt ys) z p
pred_back (x ∷ xs) ys k p =
    let z : suc (length xs + k) ≡ length (x ∷ xs) + k = omega arith in
    subst (IsPredAt (x ∷ (xs ++ ys))) z (pred_back xs ys k p)

pub pred_mapped : (f : Sign → Word) (xs : List FoAtom) (k : ℕ) → IsPredAt xs k → IsPredAt (map (in_atom f) xs) k
pred_mapped f [] k p = let e = p.2 in absurd cc
pred_mapped f (x ∷ xs) zero p =
    let e : x ≡ Predicate p.0 p.1 = (let q = p.2 in cc) in (p.0, map (replaced f) p.1, ap (λ y. Some (in_atom f y)) e)
pred_mapped f (x ∷ xs) (suc k) p = pred_mapped f xs k p

-- ---- pairs

pub pairs_fit : (old : ℕ → ℕ) (n : ℕ) (xs olds news : List FoAtom)
    → ((i : ℕ) → IsPredAt xs i → IsPredAt olds (old (n + i)) × IsPredAt news (n + i))
    → PairsFit olds news (pairs_from old n xs)
pairs_fit old n [] olds news g = tt
pairs_fit old n (Equation l r ∷ xs) olds news g =
    pairs_fit old (suc n) xs olds news (λ i p. let e : n + suc i ≡ suc n + i = omega arith in
    subst (λ m. IsPredAt olds (old m) × IsPredAt news m) e (g (suc i) p))
pairs_fit old n (Predicate q ts ∷ xs) olds news g =
    let e : n + 0 ≡ n = omega arith in (
      subst (λ m. IsPredAt olds (old m) × IsPredAt news m) e (g 0 (q, ts, refl)),
      pairs_fit old (suc n) xs olds news (λ i p. let e : n + suc i ≡ suc n + i = omega arith in
          subst (λ m. IsPredAt olds (old m) × IsPredAt news m) e (g (suc i) p)),
    )

pub pairs_fit_0 : (old : ℕ → ℕ) (xs olds news : List FoAtom)
    → ((i : ℕ) → IsPredAt xs i → IsPredAt olds (old i) × IsPredAt news i) → PairsFit olds news (pairs_from old 0 xs)
pairs_fit_0 old xs olds news g =
    pairs_fit old 0 xs olds news (λ i p. let e : i ≡ 0 + i = omega arith in
    subst (λ m. IsPredAt olds (old m) × IsPredAt news m) e (g i p))

pub same_fit : (xs news : List FoAtom) → ((i : ℕ) → IsPredAt xs i → IsPredAt news i) → PairsFit xs news (same_pairs xs)
same_fit xs news g = pairs_fit_0 (λ k. k) xs xs news (λ i p. (p, g i p))

pub kept_fit : (k : ℕ) (xs news : List FoAtom) → ((i : ℕ) → IsPredAt (without k xs) i → IsPredAt news i)
    → PairsFit xs news (kept_pairs k xs)
kept_fit k xs news g =
    pairs_fit_0 (before k) (without k xs) xs news (λ i p. (
      (p.0, p.1, get_without k xs i (Predicate p.0 p.1) p.2),
      g i p,
    ))

pub children_fit : (k n : ℕ) (xs olds news : List FoAtom) → IsPredAt olds k
    → ((i : ℕ) → IsPredAt xs i → IsPredAt news (n + i)) → PairsFit olds news (child_pairs k n xs)
children_fit k n [] olds news here g = tt
children_fit k n (Equation l r ∷ xs) olds news here g =
    children_fit k (suc n) xs olds news here (λ i p. let e : n + suc i ≡ suc n + i = omega arith in
    subst (λ m. IsPredAt news m) e (g (suc i) p))
children_fit k n (Predicate q ts ∷ xs) olds news here g =
    let e : n + 0 ≡ n = omega arith in (
      (here, subst (λ m. IsPredAt news m) e (g 0 (q, ts, refl))),
      children_fit k (suc n) xs olds news here (λ i p. let e : n + suc i ≡ suc n + i = omega arith in
          subst (λ m. IsPredAt news m) e (g (suc i) p)),
    )
