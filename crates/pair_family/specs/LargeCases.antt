-- Cases whose states say more than a number allows.
use Rattle.std.specs.Prelude.{◌≡◌, ℕ, suc, ◌+◌, ◌<◌, List, length, take, drop}
use Rattle.std.specs.List.{sum_by}
use Rattle.heap_formula.specs.declared.atoms.Pure.{Pure}
use Rattle.heap_formula.specs.declared.atoms.Spatial.{Spatial}
use Rattle.heap_formula.specs.Symbolic.{SymbolicHeap}
use Rattle.heap_formula.specs.Definitions.{Definition}
use Rattle.heap_formula.specs.Words.{Each, OneOf}
use Rattle.heap_formula.specs.Meaning.{cases_of}
use Rattle.pair_family.specs.BasePairs.{BasePair}
use Rattle.pair_family.specs.Combination.{Choice, AreConsistent, combination}
use Rattle.pair_family.specs.Family.{PairFamily, IsChosen, arity_of}
use Rattle.pair_family.specs.Folding.{said_in}
use Rattle.pair_family.specs.Frames.{frame_of, kept_terms}
use Rattle.pair_family.specs.JoinOrder.{join_order}
use Rattle.pair_family.specs.Tables.{IsDistinct}

-- one, and the number of facts of a base pair
abbrev pub size_of : BasePair → ℕ
size_of b = suc (length b.same + length b.differ + length b.cells)

-- what base pairs are in size
abbrev pub sizes : List BasePair → ℕ
sizes bs = sum_by size_of bs

-- the base pairs of which this is true are more, in size, than `most`
pub record HasMore (most : ℕ) (P : BasePair → Type 0) : Type 0 where
  pub list : List BasePair
  pub distinct : IsDistinct list
  pub are : Each P list
  pub more : most < sizes list

abbrev pub first_atoms : ℕ → List Pure → List Spatial → SymbolicHeap
first_atoms n ps xs = record { pure = ps; spatial = take n xs }

-- d is what a consistent combination of the pure atoms and the first n of the spatial ones says of the terms that are
-- kept then: nil, k parameters, and the terms of the atoms that are still to come
pub record IsStateAfter (F : PairFamily) (k : ℕ) (ps : List Pure) (xs : List Spatial) (n : ℕ) (d : BasePair)
    : Type 0 where
  pub chosen : Choice
  pub from_family : IsChosen F chosen (take n xs)
  pub consistent : AreConsistent (combination chosen (first_atoms n ps xs))
  pub said : d ≡ said_in (frame_of (kept_terms k (drop n xs))) (combination chosen (first_atoms n ps xs))

-- there are base pairs for all atoms, and so many states after some of them, in the order of a join
pub record IsLarge (most : ℕ) (F : PairFamily) (k : ℕ) (a : SymbolicHeap) : Type 0 where
  pub chosen : Choice
  pub from_family : IsChosen F chosen a.spatial
  pub taken : ℕ
  pub more : HasMore most (IsStateAfter F k a.pure (join_order k a.spatial) taken)

-- some case of the definitions is large
abbrev pub HasLargeCase : List Definition → ℕ → PairFamily → Type 0
HasLargeCase ds most F = (p : ℕ) × OneOf (IsLarge most F (arity_of ds p)) (cases_of ds p)
