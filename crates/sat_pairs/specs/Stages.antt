-- The states after each atom of a case, of which some were found.
use Rattle.std.specs.Prelude.{◌≡◌, ◌≤◌, ℕ, List, [], ◌∷◌, map, length, take}
use Rattle.heap_formula.specs.declared.atoms.Spatial.{Spatial}
use Rattle.heap_formula.specs.Words.{Each}
use Rattle.pair_family.specs.BasePairs.{BasePair}
use Rattle.pair_family.specs.Folding.{spoken}
use Rattle.pair_family.specs.Labels.{GivesFrom, Grows, HasRoom}
use Rattle.pair_family.specs.Tables.{Table}
use Rattle.sat_pairs.specs.declared.stages.Stage.{Stage}
use Rattle.sat_pairs.specs.Numbers.{count_from, kept_numbers, places_in}
use Rattle.sat_pairs.specs.Atoms.{atom_pairs}

abbrev pub atoms_of : List Stage → List Spatial
atoms_of ss = map (λ s. s.atom) ss

-- the base pairs of a stage's atom
abbrev pub pairs_at : Table → List BasePair → Stage → List BasePair
pairs_at table cell s = atom_pairs table cell s.atom

-- d is what some of these states give at a stage with some of these base pairs
abbrev pub GivesAt : Stage → List BasePair → List BasePair → BasePair → Type 0
GivesAt s before pairs = GivesFrom s.numbers.items before s.places.items s.kept.items pairs

-- the stage's states are what the first of the states before it give, so many of them, with the first base pairs of its
-- atom, as many as it has taken in
pub record IsTaken (pairs before : List BasePair) (done : ℕ) (s : Stage) : Type 0 where
  pub few : s.taken ≤ length pairs
  pub given : Grows [] s.states.keys (GivesAt s (take done before) (take s.taken pairs))

-- the stage is that of an atom that stands before others
pub record IsAt (k : ℕ) (rest : List Spatial) (s : Stage) : Type 0 where
  pub numbers : s.numbers.items ≡ kept_numbers k (s.atom ∷ rest)
  pub places : s.places.items ≡ places_in (kept_numbers k (s.atom ∷ rest)) (spoken s.atom)
  pub kept : s.kept.items ≡ count_from 0 (length (kept_numbers k rest))

-- two stages of one atom
pub record IsAlike (s t : Stage) : Type 0 where
  pub atom : t.atom ≡ s.atom
  pub numbers : t.numbers.items ≡ s.numbers.items
  pub places : t.places.items ≡ s.places.items
  pub kept : t.kept.items ≡ s.kept.items

-- a stage with what it has taken in, whose states may be `most` in size
pub record IsStage (most k : ℕ) (rest : List Spatial) (pairs before : List BasePair) (done : ℕ) (s : Stage)
    : Type 0 where
  pub at : IsAt k rest s
  pub taken : IsTaken pairs before done s
  pub room : HasRoom most s.states.keys s.room

-- stages one behind the other; of the states before the first so many were taken in, and of those before the others all
abbrev pub AreStages : ℕ → Table → List BasePair → ℕ → List BasePair → ℕ → List Stage → Type 0
AreStages most table cell k before done [] = Unit {0}
AreStages most table cell k before done (s ∷ ss) =
    IsStage most k (atoms_of ss) (pairs_at table cell s) before done s
    × AreStages most table cell k s.states.keys (length s.states.keys) ss

-- each stage has taken in all base pairs
abbrev pub IsFull : Table → List BasePair → List Stage → Type 0
IsFull table cell ss = Each (λ s. s.taken ≡ length (pairs_at table cell s)) ss

-- a stage of this atom that has taken in nothing
pub record IsFresh (most k : ℕ) (x : Spatial) (rest : List Spatial) (s : Stage) : Type 0 where
  pub atom : s.atom ≡ x
  pub at : IsAt k rest s
  pub taken : s.taken ≡ 0
  pub states : s.states.keys ≡ []
  pub room : s.room ≡ most

-- a stage of each of these atoms, that has taken in nothing
abbrev pub AreFresh : ℕ → ℕ → List Spatial → List Stage → Type 0
AreFresh most k [] ss = ss ≡ []
AreFresh most k (x ∷ xs) [] = ⊥
AreFresh most k (x ∷ xs) (s ∷ ss) = IsFresh most k x xs s × AreFresh most k xs ss

-- the states after the last stage
abbrev pub outcome : List BasePair → List Stage → List BasePair
outcome before [] = before
outcome before (s ∷ ss) = outcome s.states.keys ss
