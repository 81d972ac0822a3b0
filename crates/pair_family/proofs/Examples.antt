-- The list segment from its first parameter to its second: equal, or a cell and a segment from a local. It has two base
-- pairs.
use Rattle.std.proofs.Common.{◌≡◌, [], ◌∷◌, refl}
use Rattle.heap_formula.specs.declared.terms.Term.TheVariants.{Univ, Exist}
use Rattle.heap_formula.specs.declared.atoms.Pure.TheVariants.{Eq}
use Rattle.heap_formula.specs.declared.atoms.Spatial.TheVariants.{Cell, Pred}
use Rattle.heap_formula.specs.Symbolic.{SymbolicHeap}
use Rattle.pair_family.specs.BasePairs.{BasePair}
use Rattle.pair_family.specs.Combination.{IsConsistent, projection}

abbrev equal_ends : SymbolicHeap
equal_ends = record { pure = Eq (Univ 0) (Univ 1) ∷ []; spatial = [] }

abbrev first_cell : SymbolicHeap
first_cell = record { pure = []; spatial = Cell (Univ 0) (Exist 0 ∷ []) ∷ Pred 0 (Exist 0 ∷ Univ 1 ∷ []) ∷ [] }

-- the parameters are equal
abbrev empty_segment : BasePair
empty_segment = record { same = (1, 2) ∷ []; differ = []; cells = [] }

-- the first parameter is a cell, so it is not nil
abbrev full_segment : BasePair
full_segment = record { same = []; differ = (0, 1) ∷ []; cells = 1 ∷ [] }

first_case : projection 2 (λ k. empty_segment) equal_ends ≡ empty_segment
first_case = refl

second_case : projection 2 (λ k. empty_segment) first_cell ≡ full_segment
second_case = refl

second_again : projection 2 (λ k. full_segment) first_cell ≡ full_segment
second_again = refl

-- two cells at one address
two_cells : IsConsistent (λ k. empty_segment) (record {
  pure = [];
  spatial = Cell (Univ 0) (Univ 1 ∷ []) ∷ Cell (Univ 0) (Univ 2 ∷ []) ∷ [];
}) → ⊥
two_cells c = c.1.1.0 refl
