-- Tables that grow.
use Rattle.std.specs.Prelude.{◌≡◌, ℕ, zero, suc, ◌+◌, ◌≤◌, List, [], ◌∷◌, ◌++◌, length, Bool, true, false}
use Rattle.heap_formula.specs.Symbolic.{SymbolicHeap}
use Rattle.heap_formula.specs.Words.{OneOf}
use Rattle.heap_formula.specs.Definitions.{Definition}
use Rattle.pair_family.specs.BasePairs.{BasePair}
use Rattle.pair_family.specs.Family.{CaseGives, InFamily}
use Rattle.pair_family.specs.Tables.{IsDistinct, Table, in_table, pairs_of}
use Rattle.cyc_basics.specs.Words.{IsMember}
use Rattle.pair_family.specs.declared.states.states.StatesFault.{StatesFault}
use Rattle.pair_family.specs.declared.states.states.StatesFault.TheVariants.{TooManyStates, OutOfMemory}
use Rattle.sat_pairs.specs.declared.rounds.PairFault.{PairFault}
use Rattle.sat_pairs.specs.declared.rounds.PairFault.TheVariants as faults

-- how many base pairs a table has
abbrev pub total : Table → ℕ
total [] = 0
total (bs ∷ table) = length bs + total table

-- one more base pair of predicate p
abbrev pub with_pair : Table → ℕ → BasePair → Table
with_pair [] p b = []
with_pair (bs ∷ table) zero b = (bs ++ b ∷ []) ∷ table
with_pair (bs ∷ table) (suc p) b = bs ∷ with_pair table p b

-- the table after a base pair was added, with whether it is new
abbrev pub IsAddedTo : Table → Table → ℕ → BasePair → Bool → Type 0
IsAddedTo old new p b true = (¬ IsMember b (pairs_of old p)) × (new ≡ with_pair old p b)
IsAddedTo old new p b false = IsMember b (pairs_of old p) × (new ≡ old)

-- a table of members of the family, none twice, and no more than `most`
pub record IsPartOf (ds : List Definition) (most : ℕ) (table : Table) : Type 0 where
  pub members : (p : ℕ) (b : BasePair) → IsMember b (pairs_of table p) → InFamily ds p b
  pub distinct : (p : ℕ) → IsDistinct (pairs_of table p)
  pub few : total table ≤ most
  pub long : length table ≡ length ds

-- the new table has what the old one has, in its order and before all else, and is the old one if it has no more
pub record IsGrown (old new : Table) : Type 0 where
  pub within : (p : ℕ) (b : BasePair) → IsMember b (pairs_of old p) → IsMember b (pairs_of new p)
  pub extends : (p : ℕ) → (rest : List BasePair) × (pairs_of new p ≡ pairs_of old p ++ rest)
  pub more : total old ≤ total new
  pub same : total new ≡ total old → new ≡ old

-- these base pairs are of predicate p
abbrev pub AreInFamily : List Definition → ℕ → List BasePair → Type 0
AreInFamily ds p bs = (b : BasePair) → IsMember b bs → InFamily ds p b

-- the table has these base pairs of predicate p
abbrev pub HasPairs : Table → ℕ → List BasePair → Type 0
HasPairs table p bs = (b : BasePair) → IsMember b bs → IsMember b (pairs_of table p)

-- the new table has what a case of predicate p gives with the old one
abbrev pub HasGiven : Table → Table → ℕ → ℕ → SymbolicHeap → Type 0
HasGiven old new p k a = (b : BasePair) → CaseGives (in_table old) k b a → IsMember b (pairs_of new p)

-- and what some cases give
abbrev pub HasAllGiven : Table → Table → ℕ → ℕ → List SymbolicHeap → Type 0
HasAllGiven old new p k cases = (b : BasePair) → OneOf (CaseGives (in_table old) k b) cases
    → IsMember b (pairs_of new p)

-- a fault of a case as one of the family
abbrev pub pair_fault_of : StatesFault → PairFault
pair_fault_of TooManyStates = faults.TooManyStates
pair_fault_of OutOfMemory = faults.OutOfMemory
