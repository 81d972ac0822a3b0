-- Kept terms by number, and the places of terms among them.
use Rattle.std.proofs.Common.{◌≡◌, ℕ, zero, suc, ◌+◌, ◌<◌, inl, inr, List, [], ◌∷◌, ◌++◌, map, length, Bool, true}
use Rattle.std.proofs.Common.{false, if◌then◌else◌, arith, sym, refl, ap, ◌∙◌}
use Rattle.std.specs.Prelude.{nat_eq, slice_index, slice_index_or}
use Rattle.std.proofs.lemmas.Bool.{cases_Bool, eqb-true, eq-eqb, both_ways}
use Rattle.heap_formula.specs.declared.terms.Term.{Term}
use Rattle.heap_formula.specs.declared.terms.Term.TheVariants.{Nil}
use Rattle.heap_formula.specs.declared.atoms.Pure.{Pure}
use Rattle.heap_formula.specs.declared.atoms.Spatial.{Spatial}
use Rattle.heap_formula.specs.Words.{Each}
use Rattle.pair_family.specs.BasePairs.{element}
use Rattle.pair_family.specs.Classes.{term_number}
use Rattle.pair_family.specs.Folding.{spoken}
use Rattle.pair_family.specs.Frames.{term_at, has_term, one_more, with_terms, kept_terms}
use Rattle.cyc_basics.specs.Words.{IsMember}
use Rattle.pair_family.proofs.Combined.{ArePlaces}
use Rattle.sat_pairs.specs.Numbers.{numbered, with_numbers, kept_numbers, sides_of, with_pure_numbers, place_in}
use Rattle.sat_pairs.specs.Numbers.{places_in, count_from}
use Rattle.pair_family.proofs.Labelled.{any_map}

map_snoc : {X Y : Type 0} (f : X → Y) (xs : List X) (x : X) → map f xs ++ (f x ∷ []) ≡ map f (xs ++ (x ∷ []))
map_snoc f [] x = refl
map_snoc f (y ∷ xs) x = ap (λ z. f y ∷ z) (map_snoc f xs x)

one_numbered : (terms : List Term) (t : Term) → numbered (map term_number (Nil ∷ terms)) (term_number t)
    ≡ map term_number (Nil ∷ one_more terms t)
one_numbered terms t =
    ap (λ b. if b then map term_number (Nil ∷ terms) else map term_number (Nil ∷ terms) ++ (term_number t ∷ []))
    (any_map (λ c. nat_eq c (term_number t)) term_number (Nil ∷ terms)) ∙ by (has_term (Nil ∷ terms) t)
  where
    by : (b : Bool) → (if b then map term_number (Nil ∷ terms) else map term_number (Nil ∷ terms)
        ++ (term_number t ∷ [])) ≡ map term_number (Nil ∷ (if b then terms else terms ++ (t ∷ [])))
    by true = refl
    by false = map_snoc term_number (Nil ∷ terms) t

pub terms_numbered : (terms ts : List Term) → with_numbers (map term_number (Nil ∷ terms)) ts
    ≡ map term_number (Nil ∷ with_terms terms ts)
terms_numbered terms [] = refl
terms_numbered terms (t ∷ ts) = ap (λ z. with_numbers z ts) (one_numbered terms t)
    ∙ terms_numbered (one_more terms t) ts

pub kept_are : (k : ℕ) (xs : List Spatial) → kept_numbers k xs ≡ map term_number (Nil ∷ kept_terms k xs)
kept_are k [] = refl
kept_are k (x ∷ xs) = ap (λ z. with_numbers z (spoken x)) (kept_are k xs) ∙ terms_numbered (kept_terms k xs) (spoken x)

-- the sides of pure atoms
abbrev pub pure_terms : List Pure → List Term
pure_terms [] = []
pure_terms (p ∷ ps) = (sides_of p).0 ∷ (sides_of p).1 ∷ pure_terms ps

pub pure_numbered : (ns : List ℕ) (ps : List Pure) → with_pure_numbers ns ps ≡ with_numbers ns (pure_terms ps)
pure_numbered ns [] = refl
pure_numbered ns (p ∷ ps) = pure_numbered (numbered (numbered ns (term_number (sides_of p).0))
    (term_number (sides_of p).1)) ps

-- ---- places

pub placed : (t : Term) (terms : List Term) → IsMember t terms
    → place_in (term_number t) (map term_number terms) < length terms
placed t [] m = absurd m
placed t (u ∷ terms) (inl s) =
    elim (cases_Bool (nat_eq (term_number u) (term_number t))) [
      | inl y ↦ rw y (omega arith)
      | inr n ↦ absurd (both_ways (nat_eq (term_number u) (term_number t)) n
          (eq-eqb (term_number u) (term_number t) (ap term_number s)))
    ]
placed t (u ∷ terms) (inr m) =
    let l = placed t terms m in
    elim (cases_Bool (nat_eq (term_number u) (term_number t)))
    [ inl y ↦ rw y (omega arith) | inr n ↦ rw n (omega arith) ]

pub placed_at : (same : (t u : Term) → term_number t ≡ term_number u → t ≡ u) (t : Term) (terms : List Term)
    → IsMember t terms → term_at terms (place_in (term_number t) (map term_number terms)) ≡ t
placed_at same t [] m = absurd m
placed_at same t (u ∷ terms) (inl s) =
    elim (cases_Bool (nat_eq (term_number u) (term_number t))) [
      | inl y ↦ rw y s
      | inr n ↦ absurd (both_ways (nat_eq (term_number u) (term_number t)) n
          (eq-eqb (term_number u) (term_number t) (ap term_number s)))
    ]
placed_at same t (u ∷ terms) (inr m) =
    let r = placed_at same t terms m in
    elim (cases_Bool (nat_eq (term_number u) (term_number t))) [
      | inl y ↦ rw y (same u t (eqb-true (term_number u) (term_number t) y))
      | inr n ↦ rw n r
    ]

module _ (same : (t u : Term) → term_number t ≡ term_number u → t ≡ u) (rest : List Term) where
  place_within : (ts : List Term) → Each (λ t. IsMember t (Nil ∷ rest)) ts → (i : ℕ)
      → slice_index (map (λ t. place_in (term_number t) (map term_number (Nil ∷ rest))) ts) i < length (Nil ∷ rest)
  place_within [] a i = omega arith
  place_within (t ∷ ts) a zero = placed t (Nil ∷ rest) a.0
  place_within (t ∷ ts) a (suc i) = place_within ts a.1 i

  place_is : (ts : List Term) → Each (λ t. IsMember t (Nil ∷ rest)) ts → (i : ℕ)
      → term_at (Nil ∷ rest) (slice_index (map (λ t. place_in (term_number t) (map term_number (Nil ∷ rest))) ts) i)
      ≡ slice_index_or ts i Nil
  place_is [] a i = refl
  place_is (t ∷ ts) a zero = placed_at same t (Nil ∷ rest) a.0
  place_is (t ∷ ts) a (suc i) = place_is ts a.1 i

  pub are_places : (ts : List Term) → Each (λ t. IsMember t (Nil ∷ rest)) ts
      → ArePlaces (Nil ∷ rest) ts (places_in (map term_number (Nil ∷ rest)) ts)
  are_places ts a = record { within = within; is = is }
    where
      within : (i : ℕ) → slice_index (places_in (map term_number (Nil ∷ rest)) ts) i < length (Nil ∷ rest)
      within zero = omega arith
      within (suc i) = place_within ts a i

      is : (i : ℕ) → term_at (Nil ∷ rest) (slice_index (places_in (map term_number (Nil ∷ rest)) ts) i) ≡ element ts i
      is zero = refl
      is (suc i) = place_is ts a i

-- ---- the numbers from i on as places

pub counted_at : (f : ℕ → Term) (i : ℕ) (xs : List Term) → ((j : ℕ) → j < length xs → f (i + j) ≡ term_at xs j)
    → map f (count_from i (length xs)) ≡ xs
counted_at f i [] e = refl
counted_at f i (x ∷ xs) e =
    let z : i + 0 ≡ i = omega arith in
    let here : f i ≡ x = ap f (sym z) ∙ e 0 (omega arith) in
    let rest = counted_at f (suc i) xs (λ j l. let s : suc i + j ≡ i + suc j = omega arith in
    ap f s ∙ e (suc j) (omega arith)) in
    λ z. here z ∷ rest z

pub at_left : (xs ys : List Term) (j : ℕ) → j < length xs → term_at (xs ++ ys) j ≡ term_at xs j
at_left [] ys j l = absurd (omega arith)
at_left (x ∷ xs) ys zero l = refl
at_left (x ∷ xs) ys (suc j) l = at_left xs ys j (omega arith)

pub below_each : (i n m : ℕ) → i + n < suc m → Each (λ j. j < m) (count_from i n)
below_each i zero m l = tt
below_each i (suc n) m l = (omega arith, below_each (suc i) n m (omega arith))
