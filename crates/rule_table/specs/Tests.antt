-- Tests on terms and atoms.
use Rattle.std.specs.Prelude.{ℕ, suc, List, [], ◌∷◌, Bool, true, false, ◌&&◌, ◌||◌, nat_eq, nat_le, nat_lt, Option}
use Rattle.std.specs.Prelude.{Some, None}
use Rattle.std.specs.List.{list_all}
use Rattle.heap_formula.specs.declared.terms.Term.{Term}
use Rattle.heap_formula.specs.declared.terms.Term.TheVariants.{Nil, Univ, Exist}
use Rattle.heap_formula.specs.declared.atoms.Pure.{Pure}
use Rattle.heap_formula.specs.declared.atoms.Pure.TheVariants.{Eq, Neq}
use Rattle.heap_formula.specs.declared.atoms.Spatial.{Spatial}
use Rattle.heap_formula.specs.declared.atoms.Spatial.TheVariants.{Cell, Pred}
use Rattle.heap_formula.specs.Symbolic.{SymbolicHeap}
use Rattle.rule_table.specs.RuleLink.{mirror_pure}

-- two terms are one as they stand
abbrev pub same_term : Term → Term → Bool
same_term Nil Nil = true
same_term Nil (Univ n) = false
same_term Nil (Exist n) = false
same_term (Univ m) Nil = false
same_term (Univ m) (Univ n) = nat_eq m n
same_term (Univ m) (Exist n) = false
same_term (Exist m) Nil = false
same_term (Exist m) (Univ n) = false
same_term (Exist m) (Exist n) = nat_eq m n

-- two lists of terms are one
abbrev pub same_terms : List Term → List Term → Bool
same_terms [] [] = true
same_terms [] (u ∷ us) = false
same_terms (t ∷ ts) [] = false
same_terms (t ∷ ts) (u ∷ us) = same_term t u && same_terms ts us

-- two pure atoms are one as they stand
abbrev pub same_pure : Pure → Pure → Bool
same_pure (Eq t u) (Eq v w) = same_term t v && same_term u w
same_pure (Neq t u) (Neq v w) = same_term t v && same_term u w
same_pure (Eq t u) (Neq v w) = false
same_pure (Neq t u) (Eq v w) = false

-- two spatial atoms are one as they stand
abbrev pub same_spatial : Spatial → Spatial → Bool
same_spatial (Cell t ts) (Cell u us) = same_term t u && same_terms ts us
same_spatial (Pred p ts) (Pred q us) = nat_eq p q && same_terms ts us
same_spatial (Cell t ts) (Pred q us) = false
same_spatial (Pred p ts) (Cell u us) = false

-- the term is no existential variable
abbrev pub is_universal : Term → Bool
is_universal Nil = true
is_universal (Univ n) = true
is_universal (Exist n) = false

-- no member is an existential variable
abbrev pub are_universal : List Term → Bool
are_universal [] = true
are_universal (t ∷ ts) = is_universal t && are_universal ts

-- no existential variable stands in the pure atom
abbrev pub is_universal_pure : Pure → Bool
is_universal_pure (Eq t u) = is_universal t && is_universal u
is_universal_pure (Neq t u) = is_universal t && is_universal u

-- no existential variable stands in the spatial atom
abbrev pub is_universal_spatial : Spatial → Bool
is_universal_spatial (Cell t ts) = is_universal t && are_universal ts
is_universal_spatial (Pred p ts) = are_universal ts

-- none stands in the heap
abbrev pub is_universal_heap : SymbolicHeap → Bool
is_universal_heap a = list_all is_universal_pure a.pure && list_all is_universal_spatial a.spatial

-- the list has the atom or its mirror image
abbrev pub has_pure : List Pure → Pure → Bool
has_pure [] x = false
has_pure (y ∷ ys) x = (same_pure y x || same_pure y (mirror_pure x)) || has_pure ys x

-- an equation of a term with itself
abbrev pub is_trivial : Pure → Bool
is_trivial (Eq t u) = same_term t u
is_trivial (Neq t u) = false

-- the atom is `t = t`, or the list has it or its mirror image
abbrev pub follows : List Pure → Pure → Bool
follows pures x = is_trivial x || has_pure pures x

-- two terms are one or stand in an equation of the list
abbrev pub equated : List Pure → Term → Term → Bool
equated pures t u = same_term t u || has_pure pures (Eq t u)

-- a disequation of a term with itself
abbrev pub is_contradiction : Pure → Bool
is_contradiction (Eq t u) = false
is_contradiction (Neq t u) = same_term t u

-- the list has a disequation of a term with itself
abbrev pub some_contradiction : List Pure → Bool
some_contradiction [] = false
some_contradiction (x ∷ xs) = is_contradiction x || some_contradiction xs

-- some cell's address is the term
abbrev pub is_cell_at : Term → Spatial → Bool
is_cell_at u (Cell t ts) = same_term t u
is_cell_at u (Pred p ts) = false

-- the list has a cell at the term
abbrev pub some_cell_at : Term → List Spatial → Bool
some_cell_at u [] = false
some_cell_at u (x ∷ xs) = is_cell_at u x || some_cell_at u xs

-- the atom is a cell, and the list has one at its address
abbrev pub also_later : Spatial → List Spatial → Bool
also_later (Cell t ts) xs = some_cell_at t xs
also_later (Pred p ts) xs = false

-- two cells have one address
abbrev pub two_cells : List Spatial → Bool
two_cells [] = false
two_cells (x ∷ xs) = also_later x xs || two_cells xs

-- some pure atom is `t != t`, a cell stands at `nil`, or two cells have one address
abbrev pub is_absurd : SymbolicHeap → Bool
is_absurd a = some_contradiction a.pure || (some_cell_at Nil a.spatial || two_cells a.spatial)

-- a cell's address
abbrev pub address_of : Spatial → Option Term
address_of (Cell t ts) = Some t
address_of (Pred p ts) = None

-- the numbers are below n, ascend strictly, and are at least k
abbrev pub ascend_from : ℕ → ℕ → List ℕ → Bool
ascend_from k n [] = true
ascend_from k n (i ∷ is) = (nat_le k i && nat_lt i n) && ascend_from (suc i) n is

-- the list has the number
abbrev pub has_number : List ℕ → ℕ → Bool
has_number [] k = false
has_number (i ∷ is) k = nat_eq k i || has_number is k
