-- Rounds that take only choices with something new.
use Rattle.std.proofs.Common.{ℕ, List, [], ◌∷◌}
use Rattle.heap_formula.specs.declared.atoms.Spatial.{Spatial}
use Rattle.heap_formula.specs.Symbolic.{SymbolicHeap}
use Rattle.pair_family.specs.BasePairs.{BasePair}
use Rattle.pair_family.specs.Combination.{Choice, next}
use Rattle.pair_family.specs.Family.{PairFamily, IsChosen, CaseGives}
use Rattle.pair_family.specs.States.{IsChosenBy, GivesBy}

-- one family at all places
pub chosen_by : (F : PairFamily) (bs : Choice) (xs : List Spatial) → IsChosen F bs xs → IsChosenBy (λ k. F) bs xs
chosen_by F bs [] c = tt
chosen_by F bs (x ∷ xs) c = (c.0, chosen_by F (next bs) xs c.1)

pub by_chosen : (F : PairFamily) (bs : Choice) (xs : List Spatial) → IsChosenBy (λ k. F) bs xs → IsChosen F bs xs
by_chosen F bs [] c = tt
by_chosen F bs (x ∷ xs) c = (c.0, by_chosen F (next bs) xs c.1)

pub case_by : (F : PairFamily) (k : ℕ) (b : BasePair) (a : SymbolicHeap) → CaseGives F k b a → GivesBy (λ i. F) k b a
case_by F k b a c = record {
  chosen = c.chosen;
  from_families = chosen_by F c.chosen a.spatial c.from_family;
  consistent = c.consistent;
  projected = c.projected;
}

pub by_case : (F : PairFamily) (k : ℕ) (b : BasePair) (a : SymbolicHeap) → GivesBy (λ i. F) k b a → CaseGives F k b a
by_case F k b a c = record {
  chosen = c.chosen;
  from_family = by_chosen F c.chosen a.spatial c.from_families;
  consistent = c.consistent;
  projected = c.projected;
}
