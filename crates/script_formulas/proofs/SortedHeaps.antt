-- Disjoint unions of heaps with sorts, and splits of them.
use Rattle.std.proofs.Common.{◌≡◌, ℕ, refl, subst, ◌⊎◌, inl, inr}
use Rattle.heap_formula.proofs.Unions.{union_comm, union_same, empty_union, union_assoc, union_assoc_back}
use Rattle.script_formulas.specs.Heaps.{SortedCells, no_sorted_cells, IsSortedUnion, SortedStar}

pub sorted_comm : {l r h : SortedCells} → IsSortedUnion l r h → IsSortedUnion r l h
sorted_comm u = record { at = λ sort. union_comm (u.at sort) }

pub sorted_same : {l r h g : SortedCells} → IsSortedUnion l r h → IsSortedUnion l r g → h ≡ g
sorted_same {h = h} {g = g} u v = λ i sort. union_same (u.at sort) (v.at sort) i

pub sorted_empty : (h : SortedCells) → IsSortedUnion no_sorted_cells h h
sorted_empty h = record { at = λ sort. empty_union (h sort) }

pub sorted_empty_same : {r h : SortedCells} → IsSortedUnion no_sorted_cells r h → r ≡ h
sorted_empty_same {r = r} u = sorted_same (sorted_empty r) u

pub sorted_assoc : {a b ab c h : SortedCells} → IsSortedUnion a b ab → IsSortedUnion ab c h
    → (bc : SortedCells) × IsSortedUnion b c bc × IsSortedUnion a bc h
sorted_assoc u v =
    let w = λ (sort : ℕ). union_assoc (u.at sort) (v.at sort) in
    (λ sort. (w sort).0, record { at = λ sort. (w sort).1 }, record { at = λ sort. (w sort).2 })

pub sorted_assoc_back : {a b c bc h : SortedCells} → IsSortedUnion b c bc → IsSortedUnion a bc h
    → (ab : SortedCells) × IsSortedUnion a b ab × IsSortedUnion ab c h
sorted_assoc_back u v =
    let w = λ (sort : ℕ). union_assoc_back (u.at sort) (v.at sort) in
    (λ sort. (w sort).0, record { at = λ sort. (w sort).1 }, record { at = λ sort. (w sort).2 })

-- ---- splits

pub sorted_map : {A B C D : SortedCells → Type 0} {h : SortedCells} → ((g : SortedCells) → A g → C g)
    → ((g : SortedCells) → B g → D g) → SortedStar A B h → SortedStar C D h
sorted_map f g a = record {
  part = a.part;
  rest = a.rest;
  union = a.union;
  first = f a.part a.first;
  others = g a.rest a.others;
}

pub sorted_star_assoc : {A B C : SortedCells → Type 0} {h : SortedCells} → SortedStar (SortedStar A B) C h
    → SortedStar A (SortedStar B C) h
sorted_star_assoc a =
    let w = sorted_assoc a.first.union a.union in
    record {
      part = a.first.part;
      rest = w.0;
      union = w.2;
      first = a.first.first;
      others = record { part = a.first.rest; rest = a.rest; union = w.1; first = a.first.others; others = a.others };
    }

pub sorted_star_assoc_back : {A B C : SortedCells → Type 0} {h : SortedCells} → SortedStar A (SortedStar B C) h
    → SortedStar (SortedStar A B) C h
sorted_star_assoc_back a =
    let w = sorted_assoc_back a.others.union a.union in
    record {
      part = w.0;
      rest = a.others.rest;
      union = w.2;
      first = record { part = a.part; rest = a.others.part; union = w.1; first = a.first; others = a.others.first };
      others = a.others.others;
    }

-- the empty heap beside another
pub sorted_star_empty : {B : SortedCells → Type 0} {h : SortedCells} → SortedStar (λ g. g ≡ no_sorted_cells) B h → B h
sorted_star_empty {B = B} {h = h} a =
    let u : IsSortedUnion no_sorted_cells a.rest h = subst (λ g. IsSortedUnion g a.rest h) a.first a.union in
    subst B (sorted_empty_same u) a.others

pub sorted_empty_star : {B : SortedCells → Type 0} {h : SortedCells} → B h → SortedStar (λ g. g ≡ no_sorted_cells) B h
sorted_empty_star {h = h} b = record {
  part = no_sorted_cells;
  rest = h;
  union = sorted_empty h;
  first = refl;
  others = b;
}

pub sorted_star_none : {A : SortedCells → Type 0} {h : SortedCells} → A h → SortedStar A (λ g. g ≡ no_sorted_cells) h
sorted_star_none {h = h} a = record {
  part = h;
  rest = no_sorted_cells;
  union = sorted_comm (sorted_empty h);
  first = a;
  others = refl;
}

pub sorted_none_star : {A : SortedCells → Type 0} {h : SortedCells} → SortedStar A (λ g. g ≡ no_sorted_cells) h → A h
sorted_none_star {A = A} {h = h} a =
    let u : IsSortedUnion a.part no_sorted_cells h = subst (λ g. IsSortedUnion a.part g h) a.others a.union in
    subst A (sorted_empty_same (sorted_comm u)) a.first

-- one of two, in either part
pub sorted_right_or : {A B C : SortedCells → Type 0} {h : SortedCells} → SortedStar A (λ g. B g ⊎ C g) h
    → SortedStar A B h ⊎ SortedStar A C h
sorted_right_or a =
    elim a.others [
      | inl b ↦ inl (record { part = a.part; rest = a.rest; union = a.union; first = a.first; others = b })
      | inr c ↦ inr (record { part = a.part; rest = a.rest; union = a.union; first = a.first; others = c })
    ]

pub sorted_left_or : {A B C : SortedCells → Type 0} {h : SortedCells} → SortedStar (λ g. A g ⊎ B g) C h
    → SortedStar A C h ⊎ SortedStar B C h
sorted_left_or a =
    elim a.first [
      | inl b ↦ inl (record { part = a.part; rest = a.rest; union = a.union; first = b; others = a.others })
      | inr c ↦ inr (record { part = a.part; rest = a.rest; union = a.union; first = c; others = a.others })
    ]
