-- The trace pairs of every rule join predicate atoms.
use Rattle.std.proofs.Common.{◌≡◌, ℕ, zero, suc, ◌+◌, Bool, true, false, List, [], ◌∷◌, ◌++◌, map, length, Option, Some}
use Rattle.std.proofs.Common.{None, refl, sym, ap, ◌∙◌, subst, arith}
use Rattle.std.specs.Prelude.{slice_get, slice_set}
use Rattle.cyc_basics.specs.declared.limits.Limits.{Limits}
use Rattle.heap_formula.specs.declared.terms.Term.{Term}
use Rattle.heap_formula.specs.declared.atoms.Spatial.{Spatial}
use Rattle.heap_formula.specs.declared.atoms.Spatial.TheVariants.{Cell, Pred}
use Rattle.heap_formula.specs.declared.judgements.Judgement.{Judgement}
use Rattle.heap_formula.specs.declared.judgements.Judgement.TheVariants.{Entail, Term as Runs}
use Rattle.heap_formula.specs.declared.judgements.Premise.{Premise}
use Rattle.heap_formula.specs.declared.proof_rules.RuleFault.{RuleFault}
use Rattle.heap_formula.specs.declared.proof_rules.RuleFault.TheVariants.{TooManyAtoms, NoFreshVariable}
use Rattle.heap_formula.specs.Symbolic.{SymbolicHeap}
use Rattle.heap_formula.specs.Words.{Each}
use Rattle.heap_formula.specs.Positions.{without, before, pairs_from, same_pairs, kept_pairs, child_pairs, chosen}
use Rattle.heap_formula.specs.Positions.{chosen_step, chosen_place, place_step}
use Rattle.heap_formula.specs.Substitution.{in_spatial}
use Rattle.rule_table.specs.Answer.{Answer, needs, finds, entails, one_heap, single, runs, limited, each_heap, is_short}
use Rattle.rule_table.specs.Answer.{has_numbers}
use Rattle.rule_table.specs.Fits.{IsPredAt, PairsFit, OnPremises}
use Rattle.heap_formula.proofs.FactPositions.{get_without}

-- ---- answers

module _ (P : Premise → Type 0) where
  pub needs_on : (b : Bool) (f : RuleFault) (rest : Answer) → (b ≡ true → OnPremises P rest)
      → OnPremises P (needs b f rest)
  needs_on true f rest g = g refl
  needs_on false f rest g = tt

  pub finds_on : {X : Type 0} (o : Option X) (f : RuleFault) (rest : X → Answer)
      → ((x : X) → o ≡ Some x → OnPremises P (rest x)) → OnPremises P (finds o f rest)
  finds_on None f rest g = tt
  finds_on (Some x) f rest g = g x refl

  pub limited_on : (most : Limits) (ps : List Premise) → Each P ps → OnPremises P (limited most ps)
  limited_on most ps all = needs_on (each_heap (is_short most) ps) TooManyAtoms _
      (λ _. needs_on (each_heap has_numbers ps) NoFreshVariable _ (λ _. all))

module _ (P : Judgement → Premise → Type 0) where
  pub entails_on : (j : Judgement) (rest : SymbolicHeap → List SymbolicHeap → Answer)
      → ((a : SymbolicHeap) (bs : List SymbolicHeap) → OnPremises (P (Entail a bs)) (rest a bs))
      → OnPremises (P j) (entails j rest)
  entails_on (Entail a bs) rest g = g a bs
  entails_on (Runs i a) rest g = tt

  one_heap_on : (a : SymbolicHeap) (bs : List SymbolicHeap) (rest : SymbolicHeap → SymbolicHeap → Answer)
      → ((a b : SymbolicHeap) → OnPremises (P (Entail a (b ∷ []))) (rest a b))
      → OnPremises (P (Entail a bs)) (one_heap bs (rest a))
  one_heap_on a [] rest g = tt
  one_heap_on a (b ∷ []) rest g = g a b
  one_heap_on a (b ∷ c ∷ bs) rest g = tt

  pub single_on : (j : Judgement) (rest : SymbolicHeap → SymbolicHeap → Answer)
      → ((a b : SymbolicHeap) → OnPremises (P (Entail a (b ∷ []))) (rest a b)) → OnPremises (P j) (single j rest)
  single_on (Entail a bs) rest g = one_heap_on a bs rest g
  single_on (Runs i a) rest g = tt

  pub runs_on : (j : Judgement) (rest : ℕ → SymbolicHeap → Answer)
      → ((i : ℕ) (a : SymbolicHeap) → OnPremises (P (Runs i a)) (rest i a)) → OnPremises (P j) (runs j rest)
  runs_on (Entail a bs) rest g = tt
  runs_on (Runs i a) rest g = g i a

-- ---- places

pub get_back : {X : Type 0} (xs ys : List X) (k : ℕ) (x : X) → slice_get ys k ≡ Some x
    → slice_get (xs ++ ys) (length xs + k) ≡ Some x
get_back [] ys k x e = let z : k ≡ 0 + k = omega arith in subst (λ m. slice_get ys m ≡ Some x) z e
get_back (y ∷ xs) ys k x e =
    let z : suc (length xs + k) ≡ length (y ∷ xs) + k = omega arith in
    subst (λ m. slice_get (y ∷ (xs ++ ys)) m ≡ Some x) z (get_back xs ys k x e)

pub get_mapped : (f : Term → Term) (xs : List Spatial) (k : ℕ) → IsPredAt xs k → IsPredAt (map (in_spatial f) xs) k
get_mapped f [] k p = let e = p.2 in cc
get_mapped f (x ∷ xs) zero p = let e : x ≡ Pred p.0 p.1 = (let q = p.2 in cc) in
    (p.0, map f p.1, ap (λ y. Some (in_spatial f y)) e)
get_mapped f (x ∷ xs) (suc k) p = get_mapped f xs k p

get_step : {X : Type 0} (b : Bool) (f : ℕ → ℕ) (y : X) (cs xs : List X) (i : ℕ) (x : X)
    → ((j : ℕ) → slice_get cs j ≡ Some x → slice_get xs (f j) ≡ Some x) → slice_get (chosen_step b y cs) i ≡ Some x
    → slice_get (y ∷ xs) (place_step b f i) ≡ Some x
get_step true f y cs xs zero x g e = e
get_step true f y cs xs (suc i) x g e = g i e
get_step false f y cs xs i x g e = g i e

pub get_chosen : {X : Type 0} (p : ℕ → Bool) (xs : List X) (i : ℕ) (x : X) → slice_get (chosen p xs) i ≡ Some x
    → slice_get xs (chosen_place p xs i) ≡ Some x
get_chosen p [] i x e = cc
get_chosen p (y ∷ xs) i x e =
    get_step (p 0) (chosen_place (λ k. p (suc k)) xs) y (chosen (λ k. p (suc k)) xs) xs i x
    (λ j h. get_chosen (λ k. p (suc k)) xs j x h) e

-- a cell is written over a cell
pub get_written : (xs : List Spatial) (i k : ℕ) (t u : Term) (ts us : List Term) → slice_get xs i ≡ Some (Cell t ts)
    → IsPredAt xs k → IsPredAt (slice_set xs i (Cell u us)) k
get_written [] i k t u ts us at p = cc
get_written (x ∷ xs) zero zero t u ts us at p = let e = p.2 in
    let f : Some (Cell t ts) ≡ Some (Pred p.0 p.1) = sym at ∙ e in cc
get_written (x ∷ xs) zero (suc k) t u ts us at p = p
get_written (x ∷ xs) (suc i) zero t u ts us at p = p
get_written (x ∷ xs) (suc i) (suc k) t u ts us at p = get_written xs i k t u ts us at p

-- ---- pairs

pub pairs_fit : (old : ℕ → ℕ) (n : ℕ) (xs olds news : List Spatial)
    → ((i : ℕ) → IsPredAt xs i → IsPredAt olds (old (n + i)) × IsPredAt news (n + i))
    → PairsFit olds news (pairs_from old n xs)
pairs_fit old n [] olds news g = tt
pairs_fit old n (Cell t ts ∷ xs) olds news g =
    pairs_fit old (suc n) xs olds news (λ i p. let e : n + suc i ≡ suc n + i = omega arith in
    subst (λ m. IsPredAt olds (old m) × IsPredAt news m) e (g (suc i) p))
pairs_fit old n (Pred q ts ∷ xs) olds news g =
    let e : n + 0 ≡ n = omega arith in (
      subst (λ m. IsPredAt olds (old m) × IsPredAt news m) e (g 0 (q, ts, refl)),
      pairs_fit old (suc n) xs olds news (λ i p. let e : n + suc i ≡ suc n + i = omega arith in
          subst (λ m. IsPredAt olds (old m) × IsPredAt news m) e (g (suc i) p)),
    )

pub pairs_fit_0 : (old : ℕ → ℕ) (xs olds news : List Spatial)
    → ((i : ℕ) → IsPredAt xs i → IsPredAt olds (old i) × IsPredAt news i) → PairsFit olds news (pairs_from old 0 xs)
pairs_fit_0 old xs olds news g =
    pairs_fit old 0 xs olds news (λ i p. let e : i ≡ 0 + i = omega arith in
    subst (λ m. IsPredAt olds (old m) × IsPredAt news m) e (g i p))

pub same_fit : (xs news : List Spatial) → ((i : ℕ) → IsPredAt xs i → IsPredAt news i) → PairsFit xs news (same_pairs xs)
same_fit xs news g = pairs_fit_0 (λ k. k) xs xs news (λ i p. (p, g i p))

pub kept_fit : (k : ℕ) (xs news : List Spatial) → ((i : ℕ) → IsPredAt (without k xs) i → IsPredAt news i)
    → PairsFit xs news (kept_pairs k xs)
kept_fit k xs news g =
    pairs_fit_0 (before k) (without k xs) xs news (λ i p. ((p.0, p.1, get_without k xs i (Pred p.0 p.1) p.2), g i p))

pub chosen_fit : (p : ℕ → Bool) (xs news : List Spatial) → ((i : ℕ) → IsPredAt (chosen p xs) i → IsPredAt news i)
    → PairsFit xs news (pairs_from (chosen_place p xs) 0 (chosen p xs))
chosen_fit p xs news g =
    pairs_fit_0 (chosen_place p xs) (chosen p xs) xs news
    (λ i q. ((q.0, q.1, get_chosen p xs i (Pred q.0 q.1) q.2), g i q))

pub children_fit : (k n : ℕ) (xs olds news : List Spatial) → IsPredAt olds k
    → ((i : ℕ) → IsPredAt xs i → IsPredAt news (n + i)) → PairsFit olds news (child_pairs k n xs)
children_fit k n [] olds news here g = tt
children_fit k n (Cell t ts ∷ xs) olds news here g =
    children_fit k (suc n) xs olds news here (λ i p. let e : n + suc i ≡ suc n + i = omega arith in
    subst (λ m. IsPredAt news m) e (g (suc i) p))
children_fit k n (Pred q ts ∷ xs) olds news here g =
    let e : n + 0 ≡ n = omega arith in (
      (here, subst (λ m. IsPredAt news m) e (g 0 (q, ts, refl))),
      children_fit k (suc n) xs olds news here (λ i p. let e : n + suc i ≡ suc n + i = omega arith in
          subst (λ m. IsPredAt news m) e (g (suc i) p)),
    )
