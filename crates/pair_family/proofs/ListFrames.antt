-- The lists of kept terms are frames.
use Rattle.std.proofs.Common.{◌≡◌, ◌⊎◌, inl, inr, ℕ, zero, suc, ◌+◌, ◌<◌, ◌≤◌, List, [], ◌∷◌, ◌++◌, length, true, arith}
use Rattle.std.proofs.Common.{sym, refl, ap, ◌∙◌, subst}
use Rattle.std.specs.Prelude.{nat_eq}
use Rattle.std.proofs.lemmas.Bool.{cases_Bool, eqb-true}
use Rattle.heap_formula.specs.declared.terms.Term.{Term}
use Rattle.heap_formula.specs.declared.terms.Term.TheVariants.{Nil, Univ}
use Rattle.heap_formula.specs.declared.atoms.Spatial.{Spatial}
use Rattle.pair_family.specs.BasePairs.{parameter}
use Rattle.pair_family.specs.Classes.{term_number}
use Rattle.pair_family.specs.Folding.{last_frame, IsKept, AreFrames, spoken}
use Rattle.pair_family.specs.Frames.{term_at, frame_of, has_term, one_more, with_terms, kept_terms, frames_of}
use Rattle.heap_formula.specs.Fresh.{variables_from}
use Rattle.pair_family.proofs.Lists.{at_each, any_in, in_left, in_right}
use Rattle.cyc_basics.specs.Words.{IsMember}
use Rattle.pair_family.proofs.ByAtom.{IsOfParameters}
use Rattle.pair_family.proofs.Classes.{same_number}

pub in_index : (t : Term) (terms : List Term) → IsMember t terms → (i : ℕ) × (i < length terms) × (t ≡ term_at terms i)
in_index t [] m = absurd m
in_index t (u ∷ terms) (inl s) = (0, omega arith, sym s)
in_index t (u ∷ terms) (inr m) = let r = in_index t terms m in (suc r.0, omega arith, r.2)

kept_in : (terms : List Term) (t : Term) → IsMember t (Nil ∷ terms) → IsKept (frame_of terms) t
kept_in terms t m = let r = in_index t (Nil ∷ terms) m in let l = r.1 in (r.0, omega arith, r.2)

-- past the end stands nil
index_in : (terms : List Term) (i : ℕ) → IsMember (term_at terms i) terms ⊎ (term_at terms i ≡ Nil)
index_in [] i = inr refl
index_in (t ∷ terms) zero = inl (inl refl)
index_in (t ∷ terms) (suc i) = elim (index_in terms i) [ inl m ↦ inl (inr m) | inr e ↦ inr e ]

-- a term that is found is there
pub has_in : (terms : List Term) (t : Term) → has_term terms t ≡ true → IsMember t terms
has_in terms t h =
    let r = any_in (λ u. nat_eq (term_number u) (term_number t)) terms h in
    subst (λ u. IsMember u terms) (same_number r.0 t (eqb-true (term_number r.0) (term_number t) r.2)) r.1

one_kept : (terms : List Term) (t u : Term) → IsMember u (Nil ∷ terms) → IsMember u (Nil ∷ one_more terms t)
one_kept terms t u m =
    elim (cases_Bool (has_term (Nil ∷ terms) t)) [
      | inl y ↦ rw y m
      | inr n ↦ rw n (in_left u (Nil ∷ terms) (t ∷ []) m)
    ]

one_there : (terms : List Term) (t : Term) → IsMember t (Nil ∷ one_more terms t)
one_there terms t =
    elim (cases_Bool (has_term (Nil ∷ terms) t)) [
      | inl y ↦ rw y (has_in (Nil ∷ terms) t y)
      | inr n ↦ rw n (in_right t (Nil ∷ terms) (t ∷ []) (inl refl))
    ]

pub terms_kept : (terms ts : List Term) (u : Term) → IsMember u (Nil ∷ terms) → IsMember u (Nil ∷ with_terms terms ts)
terms_kept terms [] u m = m
terms_kept terms (t ∷ ts) u m = terms_kept (one_more terms t) ts u (one_kept terms t u m)

pub terms_there : (terms ts : List Term) (u : Term) → IsMember u ts → IsMember u (Nil ∷ with_terms terms ts)
terms_there terms [] u m = absurd m
terms_there terms (t ∷ ts) u (inl s) = subst (λ z. IsMember z (Nil ∷ with_terms (one_more terms t) ts)) s
    (terms_kept (one_more terms t) ts t (one_there terms t))
terms_there terms (t ∷ ts) u (inr m) = terms_there (one_more terms t) ts u m

-- what is there stays where it is
append_again : {X : Type 0} (xs ys zs : List X) → (xs ++ ys) ++ zs ≡ xs ++ (ys ++ zs)
append_again [] ys zs = refl
append_again (x ∷ xs) ys zs = ap (λ us. x ∷ us) (append_again xs ys zs)

append_none : {X : Type 0} (xs : List X) → xs ≡ xs ++ []
append_none [] = refl
append_none (x ∷ xs) = ap (λ us. x ∷ us) (append_none xs)

one_after : (terms : List Term) (t : Term) → (more : List Term) × (one_more terms t ≡ terms ++ more)
one_after terms t =
    elim (cases_Bool (has_term (Nil ∷ terms) t)) [
      | inl y ↦ ([], rw y (append_none terms))
      | inr n ↦ (t ∷ [], rw n refl)
    ]

pub terms_after : (terms ts : List Term) → (more : List Term) × (with_terms terms ts ≡ terms ++ more)
terms_after terms [] = ([], append_none terms)
terms_after terms (t ∷ ts) =
    let a = one_after terms t in
    let b = terms_after (one_more terms t) ts in
    (a.0 ++ b.0, b.1 ∙ ap (λ z. z ++ b.0) a.1 ∙ append_again terms a.0 b.0)

-- ---- frames

pub are_frames : (k : ℕ) (xs : List Spatial) → AreFrames (frames_of k xs) xs
are_frames k [] = tt
are_frames k (x ∷ xs) =
    let all = kept_terms k (x ∷ xs) in (
      kept_in all Nil (inl refl),
      at_each (IsKept (frame_of all)) (spoken x) (λ t m. kept_in all t (terms_there (kept_terms k xs) (spoken x) t m)),
      λ i l. elim (index_in (Nil ∷ kept_terms k xs) i) [
        | inl m ↦ kept_in all (term_at (Nil ∷ kept_terms k xs) i)
            (terms_kept (kept_terms k xs) (spoken x) (term_at (Nil ∷ kept_terms k xs) i) m)
        | inr e ↦ subst (IsKept (frame_of all)) (sym e) (kept_in all Nil (inl refl))
      ],
      are_frames k xs,
    )

-- ---- the last frame

long_parameters : (i k : ℕ) → length (variables_from i k) ≡ k
long_parameters i zero = refl
long_parameters i (suc k) = let l = long_parameters (suc i) k in omega arith

at_parameters : (i k j : ℕ) → j < k → term_at (variables_from i k) j ≡ Univ (i + j)
at_parameters i zero j l = absurd (omega arith)
at_parameters i (suc k) zero l = let e : i ≡ i + 0 = omega arith in ap Univ e
at_parameters i (suc k) (suc j) l = let e : suc i + j ≡ i + suc j = omega arith in
    at_parameters (suc i) k j (omega arith) ∙ ap Univ e

pub parameters_frame : (k : ℕ) (xs : List Spatial) → IsOfParameters k (last_frame (frames_of k xs) xs)
parameters_frame k (x ∷ xs) = parameters_frame k xs
parameters_frame k [] = record {
  count = long_parameters 0 k;
  at = at_place k;
}
  where
    at_place : (k i : ℕ) → i ≤ k → term_at (Nil ∷ variables_from 0 k) i ≡ parameter i
    at_place k zero l = refl
    at_place k (suc i) l = let e : 0 + i ≡ i = omega arith in at_parameters 0 k i (omega arith) ∙ ap Univ e
