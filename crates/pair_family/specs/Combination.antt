-- The combination of a symbolic heap with one base pair for each of its predicate atoms.
use Rattle.std.specs.Prelude.{◌≢◌, ℕ, zero, suc, List, [], ◌∷◌, ◌++◌, map, filter, not, ◌&&◌, ◌||◌, Bool, nat_eq}
use Rattle.std.specs.List.{list_any}
use Rattle.heap_formula.specs.declared.terms.Term.{Term}
use Rattle.heap_formula.specs.declared.terms.Term.TheVariants.{Nil}
use Rattle.heap_formula.specs.declared.atoms.Pure.{Pure}
use Rattle.heap_formula.specs.declared.atoms.Pure.TheVariants.{Eq, Neq}
use Rattle.heap_formula.specs.declared.atoms.Spatial.{Spatial}
use Rattle.heap_formula.specs.declared.atoms.Spatial.TheVariants.{Cell, Pred}
use Rattle.heap_formula.specs.Symbolic.{SymbolicHeap}
use Rattle.heap_formula.specs.Words.{Each}
use Rattle.pair_family.specs.BasePairs.{BasePair, element, parameter}
use Rattle.pair_family.specs.Classes.{class_of}

abbrev pub Two : Type 0
Two = Term × Term

-- a base pair for each place of a spatial list; the one at a cell says nothing
abbrev pub Choice : Type 0
Choice = ℕ → BasePair

abbrev pub next : Choice → Choice
next bs k = bs (suc k)

abbrev pub pure_equations : List Pure → List Two
pure_equations [] = []
pure_equations (Eq t u ∷ ps) = (t, u) ∷ pure_equations ps
pure_equations (Neq t u ∷ ps) = pure_equations ps

abbrev pub pure_differences : List Pure → List Two
pure_differences [] = []
pure_differences (Eq t u ∷ ps) = pure_differences ps
pure_differences (Neq t u ∷ ps) = (t, u) ∷ pure_differences ps

abbrev pub at_arguments : List Term → List (ℕ × ℕ) → List Two
at_arguments ts qs = map (λ q. (element ts q.0, element ts q.1)) qs

abbrev pub atom_equations : BasePair → Spatial → List Two
atom_equations b (Cell t ts) = []
atom_equations b (Pred p ts) = at_arguments ts b.same

abbrev pub atom_differences : BasePair → Spatial → List Two
atom_differences b (Cell t ts) = []
atom_differences b (Pred p ts) = at_arguments ts b.differ

-- the addresses of an atom's cells
abbrev pub atom_addresses : BasePair → Spatial → List Term
atom_addresses b (Cell t ts) = t ∷ []
atom_addresses b (Pred p ts) = map (element ts) b.cells

abbrev pub spatial_equations : Choice → List Spatial → List Two
spatial_equations bs [] = []
spatial_equations bs (x ∷ xs) = atom_equations (bs 0) x ++ spatial_equations (next bs) xs

abbrev pub spatial_differences : Choice → List Spatial → List Two
spatial_differences bs [] = []
spatial_differences bs (x ∷ xs) = atom_differences (bs 0) x ++ spatial_differences (next bs) xs

abbrev pub addresses : Choice → List Spatial → List Term
addresses bs [] = []
addresses bs (x ∷ xs) = atom_addresses (bs 0) x ++ addresses (next bs) xs

-- each two entries of a list
abbrev pub each_two : {X : Type 0} → List X → List (X × X)
each_two [] = []
each_two (t ∷ ts) = map (λ u. (t, u)) ts ++ each_two ts

abbrev pub against_nil : List Term → List Two
against_nil ts = map (λ t. (t, Nil)) ts

-- ---- facts: equations, differences (without those of the cells) and the addresses of cells

pub record Facts : Type 0 where
  pub equal : List Two
  pub differ : List Two
  pub cells : List Term

abbrev pub both : Facts → Facts → Facts
both x y = record { equal = x.equal ++ y.equal; differ = x.differ ++ y.differ; cells = x.cells ++ y.cells }

abbrev pub pure_facts : List Pure → Facts
pure_facts ps = record { equal = pure_equations ps; differ = pure_differences ps; cells = [] }

abbrev pub atom_facts : BasePair → Spatial → Facts
atom_facts b x = record { equal = atom_equations b x; differ = atom_differences b x; cells = atom_addresses b x }

abbrev pub list_facts : Choice → List Spatial → Facts
list_facts bs xs = record {
  equal = spatial_equations bs xs;
  differ = spatial_differences bs xs;
  cells = addresses bs xs;
}

-- what a heap says with one base pair for each of its predicate atoms
abbrev pub combination : Choice → SymbolicHeap → Facts
combination bs a = both (pure_facts a.pure) (list_facts bs a.spatial)

-- a cell is not nil, and each two cells differ
abbrev pub cell_differences : List Term → List Two
cell_differences ts = against_nil ts ++ each_two ts

abbrev pub all_differ : Facts → List Two
all_differ x = x.differ ++ cell_differences x.cells

-- no difference is within a class
abbrev pub AreApart : (Term → ℕ) → List Two → Type 0
AreApart f qs = Each (λ q. f q.0 ≢ f q.1) qs

abbrev pub AreConsistent : Facts → Type 0
AreConsistent x = AreApart (class_of x.equal) (all_differ x)

abbrev pub IsConsistent : Choice → SymbolicHeap → Type 0
IsConsistent bs a = AreConsistent (combination bs a)

-- ---- projections

abbrev pub upto : ℕ → List ℕ
upto zero = []
upto (suc n) = upto n ++ (n ∷ [])

-- the pairs (i, j) with i < j < n
abbrev pub pairs_below : ℕ → List (ℕ × ℕ)
pairs_below zero = []
pairs_below (suc j) = pairs_below j ++ map (λ i. (i, j)) (upto j)

-- Below, the numbers 0 to k stand for the terms `at 0` to `at k`.

-- the difference joins the classes of i and j, in one order or the other
abbrev pub is_between : (Term → ℕ) → (ℕ → Term) → ℕ → ℕ → Two → Bool
is_between f at i j q = (nat_eq (f q.0) (f (at i)) && nat_eq (f q.1) (f (at j))) ||
    (nat_eq (f q.0) (f (at j)) && nat_eq (f q.1) (f (at i)))

abbrev pub is_in_class : (Term → ℕ) → (ℕ → Term) → ℕ → Term → Bool
is_in_class f at i t = nat_eq (f t) (f (at i))

-- no lesser number is in the class of i
abbrev pub is_least : (Term → ℕ) → (ℕ → Term) → ℕ → Bool
is_least f at i = not (list_any (λ j. is_in_class f at i (at j)) (upto i))

-- what classes, differences and addresses say of these terms
abbrev pub kept : ℕ → (ℕ → Term) → (Term → ℕ) → List Two → List Term → BasePair
kept k at f ds cs = record {
  same = filter (λ q. nat_eq (f (at q.0)) (f (at q.1))) (pairs_below (suc k));
  differ = filter (λ q. list_any (is_between f at q.0 q.1) ds) (pairs_below (suc k));
  cells = filter (λ i. is_least f at i && list_any (is_in_class f at i) cs) (upto (suc k));
}

-- what facts say of the terms `at 0` to `at k`
abbrev pub said : ℕ → (ℕ → Term) → Facts → BasePair
said k at x = kept k at (class_of x.equal) (all_differ x) x.cells

-- what a combination says of nil and the first k parameters
abbrev pub projection : ℕ → Choice → SymbolicHeap → BasePair
projection k bs a = said k parameter (combination bs a)
