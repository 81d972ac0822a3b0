-- The ends of loops over two lists.
use Rattle.std.proofs.Common.{◌≡◌, ℕ, suc, ◌<◌, ◌≤◌, Bool, true, false, List, [], length, drop, get_or, ◌+◌, ◌&&◌, ◌||◌}
use Rattle.std.proofs.Common.{refl, sym, ap, subst, ◌∙◌, arith, drop-cons}
use Rattle.std.specs.Prelude.{nat_eq, not, slice_get}
use Rattle.std.proofs.lemmas.List.{drop_all}
use Rattle.std.proofs.lemmas.Bool.Decides.{Decides-eqb}
use Rattle.heap_formula.specs.declared.terms.Term.{Term}
use Rattle.heap_formula.specs.declared.terms.Term.TheVariants.{Nil}
use Rattle.heap_formula.specs.declared.atoms.Pure.{Pure}
use Rattle.heap_formula.specs.declared.atoms.Spatial.{Spatial}
use Rattle.heap_formula.specs.Substitution.{Bindings}
use Rattle.back_links.specs.Listing.{stands_in_spatial}
use Rattle.back_links.specs.Prospects.{could_equal_all, could_match_some, could_match_those}

pub second_ends : (pures : List Pure) (s : Bindings) (ts us : List Term) (i : ℕ) → length us ≤ i → i < length ts
    → could_equal_all pures s (drop i ts) (drop i us) ≡ false
second_ends pures s ts us i le lt = λ j. could_equal_all pures s (drop-cons ts i Nil lt j) (drop_all i us le j)

pub first_ends : (pures : List Pure) (s : Bindings) (ts us : List Term) (i : ℕ) → length ts ≤ i → i ≤ length ts
    → i ≤ length us → could_equal_all pures s (drop i ts) (drop i us) ≡ nat_eq (length ts) (length us)
first_ends pures s ts us i le ge within =
    ap (λ (xs : List Term). could_equal_all pures s xs (drop i us)) (drop_all i ts le)
    ∙ rest (nat_eq (length ts) (length us)) refl
  where
    rest : (b : Bool) → nat_eq (length ts) (length us) ≡ b
        → could_equal_all pures s [] (drop i us) ≡ nat_eq (length ts) (length us)
    rest true e =
        let same = (Decides-eqb (length ts) (length us)).0 e in
        ap (λ (ys : List Term). could_equal_all pures s [] ys) (drop_all i us (omega arith)) ∙ sym e
    rest false e =
        let lt : i < length us = not_same (λ q. let bad = (Decides-eqb (length ts) (length us)).1 q in cc) in
        ap (λ (ys : List Term). could_equal_all pures s [] ys) (drop-cons us i Nil lt) ∙ sym e
      where
        not_same : (length ts ≡ length us → ⊥) → i < length us
        not_same f = omega (arith, f)

pub atoms_end : (n : ℕ) (pures : List Pure) (atoms : List Spatial) (s : Bindings) (ms : List ℕ) (xs : List Spatial)
    (i : ℕ) → length xs ≤ i → i < length ms → could_match_those n pures atoms s (drop i ms) (drop i xs) ≡ true
atoms_end n pures atoms s ms xs i le lt = λ j. could_match_those n pures atoms s (drop-cons ms i 0 lt j)
    (drop_all i xs le j)

pub skipped : (n : ℕ) (pures : List Pure) (atoms : List Spatial) (s : Bindings) (ms : List ℕ) (xs : List Spatial)
    (i : ℕ) (x : Spatial) → i < length ms → i < length xs → get_or xs i x ≡ x → stands_in_spatial n x ≡ false
    → could_match_those n pures atoms s (drop (suc i) ms) (drop (suc i) xs)
    ≡ could_match_those n pures atoms s (drop i ms) (drop i xs)
skipped n pures atoms s ms xs i x lm lx at none =
    sym ((λ j. could_match_those n pures atoms s (drop-cons ms i 0 lm j) (drop-cons xs i x lx j))
    ∙ ap (λ (b : Bool). (not b || could_match_some pures s (get_or xs i x) (slice_get atoms (get_or ms i 0)))
    && could_match_those n pures atoms s (drop (suc i) ms) (drop (suc i) xs))
    (ap (λ (y : Spatial). stands_in_spatial n y) at ∙ none))

pub skips : (n : ℕ) (pures : List Pure) (atoms : List Spatial) (s : Bindings) (ms : List ℕ) (xs : List Spatial) (i : ℕ)
    (x : Spatial) → i < length ms → i < length xs → get_or xs i x ≡ x → stands_in_spatial n x ≡ false
    → could_match_those n pures atoms s (drop (i + 1) ms) (drop (i + 1) xs)
    ≡ could_match_those n pures atoms s (drop i ms) (drop i xs)
skips n pures atoms s ms xs i x lm lx at none =
    let next : suc i ≡ i + 1 = omega arith in
    subst (λ (k : ℕ). could_match_those n pures atoms s (drop k ms) (drop k xs)
    ≡ could_match_those n pures atoms s (drop i ms) (drop i xs)) next
    (skipped n pures atoms s ms xs i x lm lx at none)
