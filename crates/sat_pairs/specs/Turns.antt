-- Cases with what their turns have found.
use Rattle.std.specs.Prelude.{◌≡◌, ◌≤◌, ◌<◌, ℕ, List, [], ◌∷◌, map, length, slice_index_or, take}
use Rattle.heap_formula.specs.declared.atoms.Pure.{Pure}
use Rattle.heap_formula.specs.declared.atoms.Spatial.{Spatial}
use Rattle.heap_formula.specs.Definitions.{Definition}
use Rattle.heap_formula.specs.Meaning.{cases_of}
use Rattle.heap_formula.specs.Symbolic.{SymbolicHeap}
use Rattle.pair_family.specs.BasePairs.{BasePair}
use Rattle.pair_family.specs.Combination.{pure_facts, AreConsistent}
use Rattle.pair_family.specs.Family.{arity_of}
use Rattle.pair_family.specs.Folding.{said_in}
use Rattle.pair_family.specs.Frames.{frames_of}
use Rattle.pair_family.specs.JoinOrder.{join_order}
use Rattle.pair_family.specs.LargeCases.{IsLarge}
use Rattle.pair_family.specs.Reordering.{Reorders}
use Rattle.pair_family.specs.Tables.{Table, in_table, pairs_of}
use Rattle.cyc_basics.specs.Words.{IsMember}
use Rattle.sat_pairs.specs.declared.turns.Turn.{Turn}
use Rattle.sat_pairs.specs.Growth.{HasGiven}
use Rattle.sat_pairs.specs.Stages.{AreStages, atoms_of, outcome}

-- what pure atoms say of the terms of spatial ones and of k parameters, alone; nothing where they exclude one another
abbrev pub IsFirst : ℕ → List Spatial → List Pure → List BasePair → Type 0
IsFirst k xs ps [] = ¬ AreConsistent (pure_facts ps)
IsFirst k xs ps (s ∷ ss) =
    AreConsistent (pure_facts ps) × (s ≡ said_in (frames_of k xs 0) (pure_facts ps)) × (ss ≡ [])

-- the case at a place of a predicate's cases
abbrev pub case_at : List Definition → ℕ → ℕ → SymbolicHeap
case_at ds p i = slice_index_or (cases_of ds p) i (record { pure = []; spatial = [] })

abbrev pub heap_of : List Definition → Turn → SymbolicHeap
heap_of ds t = case_at ds t.pred t.place

abbrev pub width_of : List Definition → Turn → ℕ
width_of ds t = arity_of ds t.pred

-- the base pairs that the turns of a case found
abbrev pub found_by : Turn → List BasePair
found_by t = outcome t.first.items t.stages.items

-- the atoms xs are those of a case, in the order of a join
pub record AreOrdered (k : ℕ) (atoms xs : List Spatial) : Type 0 where
  pub all : Reorders xs atoms
  pub order : xs ≡ join_order k atoms

-- the turn is of case a, for k parameters, and what it has taken in is of the table
pub record IsTurnOf (k : ℕ) (a : SymbolicHeap) (most : ℕ) (table : Table) (cell : List BasePair) (t : Turn) : Type 0
  where
    pub ordered : AreOrdered k a.spatial (atoms_of t.stages.items)
    pub first : IsFirst k (atoms_of t.stages.items) a.pure t.first.items
    pub begun : t.begun ≤ length t.first.items
    pub stages : AreStages most table cell k t.first.items t.begun t.stages.items
    pub put : t.put ≤ length (found_by t)
    pub given : (b : BasePair) → IsMember b (take t.put (found_by t)) → IsMember b (pairs_of table t.pred)

-- the turn is of a case of the definitions
pub record IsTurn (ds : List Definition) (most : ℕ) (table : Table) (cell : List BasePair) (t : Turn) : Type 0 where
  pub pred : t.pred < length ds
  pub place : t.place < length (cases_of ds t.pred)
  pub is : IsTurnOf (width_of ds t) (heap_of ds t) most table cell t

-- the same before the first turn: whatever is in the table
abbrev pub IsNewTurn : List Definition → ℕ → Turn → Type 0
IsNewTurn ds most t = (table : Table) (cell : List BasePair) → IsTurn ds most table cell t

-- which case a turn is of
abbrev pub case_of : Turn → ℕ × ℕ
case_of t = (t.pred, t.place)

-- each case of predicate p has a turn
abbrev pub HasTurns : List Definition → ℕ → List Turn → Type 0
HasTurns ds p ts = (i : ℕ) → i < length (cases_of ds p) → IsMember {X = ℕ × ℕ} (p, i) (map case_of ts)

-- the new table has what a turn's case gives with the old one, with which the case is not large
pub record IsDone (ds : List Definition) (states : ℕ) (old new : Table) (t : Turn) : Type 0 where
  pub given : HasGiven old new t.pred (width_of ds t) (heap_of ds t)
  pub small : ¬ IsLarge states (in_table old) (width_of ds t) (heap_of ds t)
