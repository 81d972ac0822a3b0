-- What the pure atoms say, by places.
use Rattle.std.proofs.Common.{◌≡◌, ℕ, zero, suc, ◌+◌, ◌<◌, List, [], ◌∷◌, ◌++◌, map, length, Option, Some, None, arith}
use Rattle.std.proofs.Common.{sym, refl, ap, ◌∙◌, subst}
use Rattle.std.specs.Prelude.{MatchOption}
use Rattle.std.proofs.lemmas.List.{length-map, append-nil}
use Rattle.heap_formula.specs.declared.terms.Term.{Term}
use Rattle.heap_formula.specs.declared.terms.Term.TheVariants.{Nil}
use Rattle.heap_formula.specs.declared.atoms.Pure.{Pure}
use Rattle.heap_formula.specs.declared.atoms.Pure.TheVariants.{Eq, Neq}
use Rattle.heap_formula.specs.declared.atoms.Spatial.{Spatial}
use Rattle.heap_formula.specs.declared.atoms.Spatial.TheVariants.{Pred}
use Rattle.heap_formula.specs.Words.{Each}
use Rattle.pair_family.specs.BasePairs.{BasePair, element, no_pair}
use Rattle.pair_family.specs.Within.{AreWithin, IsWithin}
use Rattle.pair_family.specs.Classes.{term_number}
use Rattle.pair_family.specs.Combination.{pure_equations, pure_differences, pure_facts, AreConsistent, said}
use Rattle.pair_family.specs.Folding.{Frame, two_at, said_in, with_atom}
use Rattle.pair_family.specs.Frames.{term_at, with_terms, kept_terms, frames_of}
use Rattle.pair_family.proofs.Lists.{at_each}
use Rattle.cyc_basics.specs.Words.{IsMember}
use Rattle.pair_family.proofs.ListFrames.{terms_there, terms_after}
use Rattle.pair_family.specs.Labels.{AreApartLabels, combined_pairs, combined}
use Rattle.pair_family.proofs.Combined.{ArePlaces, apart_consistent, combined_is}
use Rattle.sat_pairs.specs.Numbers.{with_numbers, kept_numbers, with_pure_numbers, place_in, count_from, equal_places}
use Rattle.sat_pairs.specs.Numbers.{differ_places}
use Rattle.sat_pairs.proofs.Placed.{terms_numbered, kept_are, pure_terms, pure_numbered, placed, placed_at, counted_at}
use Rattle.sat_pairs.proofs.Placed.{at_left, below_each}
use Rattle.pair_family.proofs.Classes.{same_number}

-- terms whose places are known
module _ (all : List Term) where
  abbrev ns : List ℕ
  ns = map term_number (Nil ∷ all)

  abbrev at : ℕ → Term
  at = term_at (Nil ∷ all)

  here : (t : Term) → IsMember t (Nil ∷ all) → at (place_in (term_number t) ns) ≡ t
  here t m = placed_at same_number t (Nil ∷ all) m

  equal_at : (ps : List Pure) → Each (λ t. IsMember t (Nil ∷ all)) (pure_terms ps)
      → two_at at (equal_places ns ps) ≡ pure_equations ps
  equal_at [] a = refl
  equal_at (Eq t u ∷ ps) a = let x = here t a.0 in let y = here u a.1.0 in let rest = equal_at ps a.1.1 in
      λ i. (x i, y i) ∷ rest i
  equal_at (Neq t u ∷ ps) a = equal_at ps a.1.1

  differ_at : (ps : List Pure) → Each (λ t. IsMember t (Nil ∷ all)) (pure_terms ps)
      → two_at at (differ_places ns ps) ≡ pure_differences ps
  differ_at [] a = refl
  differ_at (Eq t u ∷ ps) a = differ_at ps a.1.1
  differ_at (Neq t u ∷ ps) a = let x = here t a.0 in let y = here u a.1.0 in let rest = differ_at ps a.1.1 in
      λ i. (x i, y i) ∷ rest i

  equal_below : (ps : List Pure) → Each (λ t. IsMember t (Nil ∷ all)) (pure_terms ps)
      → AreWithin (length (Nil ∷ all)) (equal_places ns ps)
  equal_below [] a = tt
  equal_below (Eq t u ∷ ps) a = ((placed t (Nil ∷ all) a.0, placed u (Nil ∷ all) a.1.0), equal_below ps a.1.1)
  equal_below (Neq t u ∷ ps) a = equal_below ps a.1.1

  differ_below : (ps : List Pure) → Each (λ t. IsMember t (Nil ∷ all)) (pure_terms ps)
      → AreWithin (length (Nil ∷ all)) (differ_places ns ps)
  differ_below [] a = tt
  differ_below (Eq t u ∷ ps) a = differ_below ps a.1.1
  differ_below (Neq t u ∷ ps) a = ((placed t (Nil ∷ all) a.0, placed u (Nil ∷ all) a.1.0), differ_below ps a.1.1)

  abbrev pure_pair : List Pure → BasePair
  pure_pair ps = record { same = equal_places ns ps; differ = differ_places ns ps; cells = [] }

  abbrev frame : Frame
  frame = record { count = length all; at = at }

  facts_are : (ps : List Pure) → Each (λ t. IsMember t (Nil ∷ all)) (pure_terms ps)
      → with_atom frame (pure_pair ps) no_pair (Pred 0 []) ≡ pure_facts ps
  facts_are ps a =
      let e = append-nil (two_at at (equal_places ns ps)) ∙ equal_at ps a in
      let d = append-nil (two_at at (differ_places ns ps)) ∙ differ_at ps a in
      λ i. record { equal = e i; differ = d i; cells = [] }

  no_places : ArePlaces (Nil ∷ all) [] []
  no_places = record { within = λ i. omega arith; is = is }
    where
      is : (i : ℕ) → term_at (Nil ∷ all) 0 ≡ element [] i
      is zero = refl
      is (suc i) = refl

-- the terms kept after it are the first
pub first_terms : (kept more : List Term) → map (term_at (Nil ∷ (kept ++ more))) (count_from 0 (length (Nil ∷ kept)))
    ≡ Nil ∷ kept
first_terms kept more = counted_at (term_at (Nil ∷ (kept ++ more))) 0 (Nil ∷ kept)
    (λ j l. let e : 0 + j ≡ j = omega arith in ap (term_at (Nil ∷ (kept ++ more))) e ∙ at_left (Nil ∷ kept) more j l)

pub longer : {X : Type 0} (xs ys : List X) → length xs < suc (length (xs ++ ys))
longer [] ys = omega arith
longer (x ∷ xs) ys = let l = longer xs ys in omega arith

each_in : (terms ts : List Term) → Each (λ t. IsMember t (Nil ∷ with_terms terms ts)) ts
each_in terms ts = at_each (λ t. IsMember t (Nil ∷ with_terms terms ts)) ts (λ t m. terms_there terms ts t m)

abbrev pub IsStart : ℕ → List Spatial → List Pure → BasePair → Type 0
IsStart k xs ps s = AreConsistent (pure_facts ps) × (s ≡ said_in (frames_of k xs 0) (pure_facts ps))

abbrev pub Combines : Option BasePair → List ℕ → BasePair → BasePair → List ℕ → Type 0
Combines o numbers stated none kept = MatchOption o (¬ AreApartLabels (combined_pairs numbers stated [] none))
    (λ d. AreApartLabels (combined_pairs numbers stated [] none) × (d ≡ combined numbers stated [] none kept))

module _ (k : ℕ) (xs : List Spatial) (ps : List Pure) where
  abbrev kept : List Term
  kept = kept_terms k xs

  abbrev all : List Term
  all = with_terms kept (pure_terms ps)

  abbrev stated : BasePair
  stated = record {
    same = equal_places (map term_number (Nil ∷ all)) ps;
    differ = differ_places (map term_number (Nil ∷ all)) ps;
    cells = [];
  }

  within : IsWithin (length (Nil ∷ all)) stated
  within = record {
    same = equal_below all ps (each_in kept (pure_terms ps));
    differ = differ_below all ps (each_in kept (pure_terms ps));
    cells = tt;
  }

  is_apart : AreApartLabels (combined_pairs (map term_number (Nil ∷ all)) stated [] no_pair)
      → AreConsistent (pure_facts ps)
  is_apart a = subst AreConsistent (facts_are all ps (each_in kept (pure_terms ps)))
      ((apart_consistent all 0 [] [] stated no_pair (no_places all) within).0 a)

  apart_is : AreConsistent (pure_facts ps) → AreApartLabels (combined_pairs (map term_number (Nil ∷ all)) stated []
      no_pair)
  apart_is a = (apart_consistent all 0 [] [] stated no_pair (no_places all) within).1
      (subst AreConsistent (sym (facts_are all ps (each_in kept (pure_terms ps)))) a)

  says_start : combined (map term_number (Nil ∷ all)) stated [] no_pair (count_from 0 (length (Nil ∷ kept)))
      ≡ said_in (frames_of k xs 0) (pure_facts ps)
  says_start =
      let after = terms_after kept (pure_terms ps) in
      let terms : map (term_at (Nil ∷ all)) (count_from 0 (length (Nil ∷ kept))) ≡ Nil
      ∷ kept = ap (λ z. map (term_at (Nil ∷ z)) (count_from 0 (length (Nil ∷ kept)))) after.1
      ∙ first_terms kept after.0 in
      let long : length (Nil ∷ kept) < suc (length (Nil ∷ all)) = subst
      (λ z. length (Nil ∷ kept) < suc (length (Nil ∷ z))) (sym after.1) (longer (Nil ∷ kept) after.0) in
      let c = combined_is all 0 [] [] stated no_pair (no_places all) within (length kept)
      (count_from 0 (length (Nil ∷ kept))) (below_each 0 (length (Nil ∷ kept)) (length (Nil ∷ all)) (omega arith))
      (ap length terms) in
      c ∙ (ap (λ z. said (length kept) (term_at z) (with_atom (frame all) stated no_pair (Pred 0 []))) terms
      ∙ ap (said (length kept) (term_at (Nil ∷ kept))) (facts_are all ps (each_in kept (pure_terms ps))))

  start_exact : (o : Option BasePair) → Combines o (map term_number (Nil ∷ all)) stated no_pair
      (count_from 0 (length (Nil ∷ kept))) → MatchOption o (¬ AreConsistent (pure_facts ps)) (IsStart k xs ps)
  start_exact None m = λ a. m (apart_is a)
  start_exact (Some d) m = (is_apart m.0, m.1 ∙ says_start)

  numbers_are : with_pure_numbers (kept_numbers k xs) ps ≡ map term_number (Nil ∷ all)
  numbers_are = pure_numbered (kept_numbers k xs) ps
      ∙ (ap (λ z. with_numbers z (pure_terms ps)) (kept_are k xs) ∙ terms_numbered kept (pure_terms ps))

  pub start_is : (o : Option BasePair) (numbers kept' : List ℕ) (stated' none : BasePair)
      → numbers ≡ with_pure_numbers (kept_numbers k xs) ps → stated'
      ≡ record { same = equal_places numbers ps; differ = differ_places numbers ps; cells = [] } → none ≡ no_pair
      → kept' ≡ count_from 0 (length (kept_numbers k xs)) → Combines o numbers stated' none kept'
      → MatchOption o (¬ AreConsistent (pure_facts ps)) (IsStart k xs ps)
  start_is o numbers kept' stated' none e s n l m =
      let e' = e ∙ numbers_are in
      let s' = s ∙ ap (λ z. record { same = equal_places z ps; differ = differ_places z ps; cells = [] }) e' in
      let l' = l ∙ ap (count_from 0) (ap length (kept_are k xs) ∙ length-map (Nil ∷ kept) term_number) in
      start_exact o (subst (λ z. Combines o z stated no_pair (count_from 0 (length (Nil ∷ kept)))) e'
      (subst (λ z. Combines o numbers z no_pair (count_from 0 (length (Nil ∷ kept)))) s'
      (subst (λ z. Combines o numbers stated' z (count_from 0 (length (Nil ∷ kept)))) n
      (subst (λ z. Combines o numbers stated' none z) l' m))))
