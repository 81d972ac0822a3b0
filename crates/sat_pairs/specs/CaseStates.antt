-- The states of a case: the first, those after one more atom, and when they are too many.
use Rattle.std.specs.Prelude.{◌≡◌, ℕ, List, [], ◌∷◌, length, take, Option, MatchOption}
use Rattle.heap_formula.specs.declared.atoms.Pure.{Pure}
use Rattle.heap_formula.specs.declared.atoms.Spatial.{Spatial}
use Rattle.pair_family.specs.BasePairs.{BasePair, no_pair}
use Rattle.pair_family.specs.Combination.{pure_facts, AreConsistent}
use Rattle.pair_family.specs.Folding.{Frames, said_in, spoken}
use Rattle.pair_family.specs.Frames.{frames_of}
use Rattle.pair_family.specs.LargeCases.{HasMore}
use Rattle.pair_family.specs.States.{Families, IsReached}
use Rattle.pair_family.specs.Labels.{IfApart, combined, combined_pairs, GivesFrom, Grows}
use Rattle.sat_pairs.specs.Numbers.{count_from, places_in, pure_pair_at, kept_numbers}

-- what the pure atoms say of the terms of the spatial ones and of k parameters, unless they exclude
-- one another
abbrev pub Starts : ℕ → List Spatial → List Pure → Option BasePair → Type 0
Starts k xs ps found =
    MatchOption found (¬ AreConsistent (pure_facts ps))
    (λ s. AreConsistent (pure_facts ps) × (s ≡ said_in (frames_of k xs 0) (pure_facts ps)))

-- what pure atoms say of the first numbers, so many being kept, unless they exclude one another
abbrev pub StartsAt : List ℕ → ℕ → List Pure → Option BasePair → Type 0
StartsAt numbers count atoms =
    let stated = pure_pair_at numbers atoms in
    IfApart (combined_pairs numbers stated [] no_pair)
    (combined numbers stated [] no_pair (count_from 0 count))

-- one of these states gives d with one of the atom's base pairs, so many terms being kept
abbrev pub GivesBy : List ℕ → ℕ → Spatial → List BasePair → List BasePair → BasePair → Type 0
GivesBy numbers after atom pairs states =
    GivesFrom numbers states (places_in numbers (spoken atom)) (count_from 0 after) pairs

-- the states that they give
abbrev pub StepsBy : List ℕ → ℕ → Spatial → List BasePair → List BasePair → List BasePair → Type 0
StepsBy numbers after atom pairs states keys = Grows [] keys (GivesBy numbers after atom pairs states)

-- the same for an atom that stands before the atoms `rest`
abbrev pub GivesTo : ℕ → Spatial → List Spatial → List BasePair → List BasePair → BasePair → Type 0
GivesTo k atom rest = GivesBy (kept_numbers k (atom ∷ rest)) (length (kept_numbers k rest)) atom

abbrev pub StepsTo : ℕ → Spatial → List Spatial → List BasePair → List BasePair → List BasePair → Type 0
StepsTo k atom rest = StepsBy (kept_numbers k (atom ∷ rest)) (length (kept_numbers k rest)) atom

-- what one of these states leads to over the first atoms, so many of them, is more than `most` in size
abbrev pub PassesFrom : ℕ → Families → Frames → List BasePair → List Spatial → Type 0
PassesFrom most Fs frames states xs = (n : ℕ) × HasMore most (IsReached Fs frames states (take n xs))

-- the same from what pure atoms say, which do not exclude one another
abbrev pub Passes : ℕ → Families → ℕ → List Pure → List Spatial → Type 0
Passes most Fs k ps xs =
    AreConsistent (pure_facts ps)
    × PassesFrom most Fs (frames_of k xs) (said_in (frames_of k xs 0) (pure_facts ps) ∷ []) xs
