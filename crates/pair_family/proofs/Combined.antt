-- What the code's labels give is what a state says with one more atom.
use Rattle.std.proofs.Common.{◌≡◌, ◌≢◌, ◌↔◌, ℕ, suc, ◌<◌, List, [], ◌∷◌, ◌++◌, map, length, sym, refl, ap, ◌∙◌, subst}
use Rattle.std.specs.Prelude.{slice_index}
use Rattle.heap_formula.specs.declared.terms.Term.{Term}
use Rattle.heap_formula.specs.declared.terms.Term.TheVariants.{Nil}
use Rattle.heap_formula.specs.declared.atoms.Spatial.TheVariants.{Pred}
use Rattle.heap_formula.specs.Words.{Each}
use Rattle.pair_family.specs.BasePairs.{BasePair, element}
use Rattle.pair_family.specs.Classes.{term_number, class_of}
use Rattle.pair_family.specs.Combination.{each_two, against_nil, cell_differences, at_arguments, Facts, all_differ}
use Rattle.pair_family.specs.Combination.{AreConsistent, said}
use Rattle.pair_family.specs.Folding.{two_at, Frame, with_atom}
use Rattle.pair_family.specs.Labels.{said_by, labels_at, label_pairs, cell_pairs, all_pairs, AreApartLabels, pairs_at}
use Rattle.pair_family.specs.Labels.{numbers_at, combined_labels, combined_pairs, combined}
use Rattle.pair_family.specs.Frames.{term_at}
use Rattle.pair_family.specs.Within.{AreWithin, AreBelow, IsWithin}
use Rattle.pair_family.proofs.Lists.{map_each}
use Rattle.pair_family.proofs.Labelled.{label_of, labels_are, said_by_is}
use Rattle.heap_formula.proofs.AllMembers.{each_imply, each_append, each_mapped}
use Rattle.std.proofs.lemmas.List.{map-append}

map_apply : {X Y : Type 0} (f g : X → Y) (xs : List X) → Each (λ x. f x ≡ g x) xs → map f xs ≡ map g xs
map_apply f g [] e = refl
map_apply f g (x ∷ xs) e = let here = e.0 in let rest = map_apply f g xs e.1 in λ i. here i ∷ rest i

map_twice : {X Y Z : Type 0} (g : Y → Z) (f : X → Y) (xs : List X) → map g (map f xs) ≡ map (λ x. g (f x)) xs
map_twice g f [] = refl
map_twice g f (x ∷ xs) = ap (λ z. g (f x) ∷ z) (map_twice g f xs)

two_map : {X Y : Type 0} (f : X → Y) (xs : List X) → each_two (map f xs) ≡ map (λ q. (f q.0, f q.1)) (each_two xs)
two_map f [] = refl
two_map f (x ∷ xs) =
    let here = map_twice (λ u. (f x, u)) f xs in
    let there = map_twice (λ q. (f q.0, f q.1)) (λ u. (x, u)) xs in
    let rest = two_map f xs in
    (λ i. here i ++ rest i) ∙ ap (λ z. z ++ map (λ q. (f q.0, f q.1)) (each_two xs)) (sym there)
    ∙ sym (map-append (λ q. (f q.0, f q.1)) (map (λ u. (x, u)) xs) (each_two xs))

-- places of an atom's nil and arguments among the kept terms; past the arguments stands nil
pub record ArePlaces (kept : List Term) (ts : List Term) (places : List ℕ) : Type 0 where
  pub within : (i : ℕ) → slice_index places i < length kept
  pub is : (i : ℕ) → term_at kept (slice_index places i) ≡ element ts i

module _ (rest : List Term) (p : ℕ) (ts : List Term) (places : List ℕ) (b c : BasePair)
    (at_places : ArePlaces (Nil ∷ rest) ts places) (b_within : IsWithin (length (Nil ∷ rest)) b) where
  abbrev kept : List Term
  kept = Nil ∷ rest

  abbrev at : ℕ → Term
  at = term_at kept

  abbrev frame : Frame
  frame = record { count = length rest; at = at }

  abbrev facts : Facts
  facts = with_atom frame b c (Pred p ts)

  abbrev f : Term → ℕ
  f = class_of facts.equal

  pairs_within : (qs : List (ℕ × ℕ)) → AreWithin (length kept) (pairs_at places qs)
  pairs_within [] = tt
  pairs_within (q ∷ qs) = ((at_places.within q.0, at_places.within q.1), pairs_within qs)

  pairs_there : (qs : List (ℕ × ℕ)) → two_at at (pairs_at places qs) ≡ at_arguments ts qs
  pairs_there [] = refl
  pairs_there (q ∷ qs) = let x = at_places.is q.0 in let y = at_places.is q.1 in let rest = pairs_there qs in
      λ i. (x i, y i) ∷ rest i

  pairs_are : (own qs : List (ℕ × ℕ)) → two_at at (own ++ pairs_at places qs) ≡ two_at at own ++ at_arguments ts qs
  pairs_are own qs = map-append (λ q. (at q.0, at q.1)) own (pairs_at places qs)
      ∙ ap (λ z. two_at at own ++ z) (pairs_there qs)

  numbers_within : (is : List ℕ) → AreBelow (length kept) (numbers_at places is)
  numbers_within [] = tt
  numbers_within (i ∷ is) = (at_places.within i, numbers_within is)

  numbers_there : (is : List ℕ) → map at (numbers_at places is) ≡ map (element ts) is
  numbers_there [] = refl
  numbers_there (i ∷ is) = let x = at_places.is i in let rest = numbers_there is in λ z. x z ∷ rest z

  cells_are : (own is : List ℕ) → map at (own ++ numbers_at places is) ≡ map at own ++ map (element ts) is
  cells_are own is = map-append at own (numbers_at places is) ∙ ap (λ z. map at own ++ z) (numbers_there is)

  labels_hold : combined_labels (map term_number kept) b places c ≡ map f kept
  labels_hold =
      labels_are term_number kept (b.same ++ pairs_at places c.same)
      (each_append (λ q. (q.0 < length kept) × (q.1 < length kept)) b.same (pairs_at places c.same) b_within.same
      (pairs_within c.same)) ∙ ap (λ es. map (class_of es) kept) (pairs_are b.same c.same)

  label_pairs_are : (qs : List (ℕ × ℕ)) → AreWithin (length kept) qs
      → label_pairs (map f kept) qs ≡ map (λ q. (f q.0, f q.1)) (two_at at qs)
  label_pairs_are qs w =
      map_apply (λ q. (slice_index (map f kept) q.0, slice_index (map f kept) q.1)) (λ q. (f (at q.0), f (at q.1))) qs
      (each_imply (λ q. (q.0 < length kept) × (q.1 < length kept))
      (λ q. ◌≡◌ {A = ℕ × ℕ} (slice_index (map f kept) q.0, slice_index (map f kept) q.1) (f (at q.0), f (at q.1)))
      (λ q l. let x = label_of f kept q.0 l.0 in let y = label_of f kept q.1 l.1 in λ i. (x i, y i)) qs w)
      ∙ sym (map_twice (λ q. (f q.0, f q.1)) (λ q. (at q.0, at q.1)) qs)

  labels_at_are : (is : List ℕ) → AreBelow (length kept) is → labels_at (map f kept) is ≡ map f (map at is)
  labels_at_are is w =
      map_apply (slice_index (map f kept)) (λ i. f (at i)) is
      (each_imply (λ i. i < length kept) (λ i. slice_index (map f kept) i ≡ f (at i)) (λ i l. label_of f kept i l)
      is w) ∙ sym (map_twice f at is)

  cell_pairs_are : (cs : List Term) → cell_pairs (f Nil) (map f cs) ≡ map (λ q. (f q.0, f q.1)) (cell_differences cs)
  cell_pairs_are cs =
      let a = map_twice (λ c. (c, f Nil)) f cs in
      let b' = map_twice (λ q. (f q.0, f q.1)) (λ t. (t, Nil)) cs in
      let t = two_map f cs in
      (λ i. a i ++ t i) ∙ ap (λ z. z ++ map (λ q. (f q.0, f q.1)) (each_two cs)) (sym b')
      ∙ sym (map-append (λ q. (f q.0, f q.1)) (against_nil cs) (each_two cs))

  numbers : List ℕ
  numbers = b.cells ++ numbers_at places c.cells

  addresses_are : labels_at (map f kept) (b.cells ++ numbers_at places c.cells) ≡ map f facts.cells
  addresses_are =
      let below = each_append (λ i. i < length kept) b.cells (numbers_at places c.cells) b_within.cells
      (numbers_within c.cells) in
      labels_at_are (b.cells ++ numbers_at places c.cells) below ∙ ap (map f) (cells_are b.cells c.cells)

  -- the code's differences are those of the facts, by their classes
  pub combined_pairs_are : combined_pairs (map term_number kept) b places c
      ≡ map (λ q. (f q.0, f q.1)) (all_differ facts)
  combined_pairs_are =
      let ds = b.differ ++ pairs_at places c.differ in
      let d = label_pairs_are ds (each_append (λ q. (q.0 < length kept) × (q.1 < length kept)) b.differ
      (pairs_at places c.differ) b_within.differ (pairs_within c.differ))
      ∙ ap (map (λ q. (f q.0, f q.1))) (pairs_are b.differ c.differ) in
      let s = ap (cell_pairs (f Nil)) addresses_are ∙ cell_pairs_are facts.cells in
      ap (λ ls. all_pairs ls ds (b.cells ++ numbers_at places c.cells)) labels_hold ∙ (λ i. d i ++ s i)
      ∙ sym (map-append (λ q. (f q.0, f q.1)) facts.differ (cell_differences facts.cells))

  pub apart_consistent : AreApartLabels (combined_pairs (map term_number kept) b places c) ↔ AreConsistent facts
  apart_consistent = (
    λ a. map_each (λ q. q.0 ≢ q.1) (λ q. (f q.0, f q.1)) (all_differ facts)
        (subst AreApartLabels combined_pairs_are a),
    λ a. subst AreApartLabels (sym combined_pairs_are)
        (each_mapped (λ q. q.0 ≢ q.1) (λ q. (f q.0, f q.1)) (all_differ facts) a),
  )

  -- and what it tells of some numbers is what the facts say of the terms there
  pub combined_is : (k : ℕ) (is : List ℕ) → AreBelow (length kept) is → length (map at is) ≡ suc k
      → combined (map term_number kept) b places c is ≡ said k (term_at (map at is)) facts
  combined_is k is w long =
      let l : labels_at (combined_labels (map term_number kept) b places c) is
      ≡ map f (map at is) = ap (λ ls. labels_at ls is) labels_hold ∙ labels_at_are is w in
      let a : labels_at (combined_labels (map term_number kept) b places c) (b.cells ++ numbers_at places c.cells)
      ≡ map f facts.cells = ap (λ ls. labels_at ls (b.cells ++ numbers_at places c.cells)) labels_hold
      ∙ addresses_are in
      (λ i. said_by (l i) (combined_pairs_are i) (a i)) ∙ said_by_is k f (map at is) (all_differ facts) facts.cells long
