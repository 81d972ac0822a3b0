-- What is known of the values of an unfolding, and that it does not contradict itself.
use Rattle.std.specs.Prelude.{◌≡◌, ℕ, ◌<◌, ◌⊎◌, List, length, None, Some, slice_get}
use Rattle.heap_formula.specs.declared.terms.Term.{Term}
use Rattle.heap_formula.specs.declared.terms.Term.TheVariants.{Nil, Univ, Exist}
use Rattle.refute_unfoldings.specs.declared.unfolding.SymbolicCell.{SymbolicCell}

-- the classes of variables, the cells, and the pairs that are to differ
pub record Known : Type 0 where
  pub classes : List Term
  pub cells : List SymbolicCell
  pub apart : List (Term × Term)

-- what stands for the class of a term: nil, or a variable
abbrev pub class_in : List Term → Term → Term
class_in classes Nil = Nil
class_in classes (Exist n) = Nil
class_in classes (Univ n) = elim (slice_get classes n) [ None ↦ Univ n | Some t ↦ t ]

-- two terms are in different classes
abbrev pub AreTwo : List Term → Term → Term → Type 0
AreTwo classes t u = class_in classes t ≡ class_in classes u → ⊥

-- the pairs that are to differ do, and each cell has an address of its own, which is not nil: where different classes
-- get different values, that is a model
pub record IsConsistent (k : Known) : Type 0 where
  pub apart : (i : ℕ) (pair : Term × Term) → slice_get k.apart i ≡ Some pair → AreTwo k.classes pair.0 pair.1
  pub placed : (i : ℕ) (c : SymbolicCell) → slice_get k.cells i ≡ Some c → AreTwo k.classes Nil c.address
  pub distinct : (i j : ℕ) (c d : SymbolicCell) → i < j → slice_get k.cells i ≡ Some c → slice_get k.cells j ≡ Some d
      → AreTwo k.classes c.address d.address

-- a pair that is to differ is of these two classes
abbrev pub JoinsClasses : List Term → Term → Term → Term × Term → Type 0
JoinsClasses classes t u pair =
    ((class_in classes pair.0 ≡ t) × (class_in classes pair.1 ≡ u))
    ⊎ ((class_in classes pair.0 ≡ u) × (class_in classes pair.1 ≡ t))

abbrev pub AreApart : Known → Term → Term → Type 0
AreApart k t u = (i : ℕ) × (pair : Term × Term) × (slice_get k.apart i ≡ Some pair) × JoinsClasses k.classes t u pair

-- a cell stands at the class
abbrev pub HasCell : Known → Term → Type 0
HasCell k t = (i : ℕ) × (c : SymbolicCell) × (slice_get k.cells i ≡ Some c) × (class_in k.classes c.address ≡ t)

-- two terms whose values differ in each model: by a pair, or since each is nil or the address of a cell
abbrev pub MustDiffer : Known → Term → Term → Type 0
MustDiffer k t u =
    AreTwo k.classes t u
    × (AreApart k (class_in k.classes t) (class_in k.classes u)
    ⊎ (((class_in k.classes t ≡ Nil) ⊎ HasCell k (class_in k.classes t))
    × ((class_in k.classes u ≡ Nil) ⊎ HasCell k (class_in k.classes u))))

-- the same classes, but for one in whose place another stands
abbrev pub AreReplaced : Term → Term → List Term → List Term → Type 0
AreReplaced gone kept from to =
    (length to ≡ length from)
    × ((i : ℕ) (c : Term) → slice_get from i ≡ Some c
    → (c ≡ gone → slice_get to i ≡ Some kept) × ((c ≡ gone → ⊥) → slice_get to i ≡ Some c))
