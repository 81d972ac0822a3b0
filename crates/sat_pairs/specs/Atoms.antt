-- The base pairs that atoms may take.
use Rattle.std.specs.Prelude.{◌<◌, ℕ, List, map, length}
use Rattle.heap_formula.specs.declared.atoms.Pure.{Pure}
use Rattle.heap_formula.specs.declared.atoms.Spatial.{Spatial}
use Rattle.heap_formula.specs.declared.atoms.Spatial.TheVariants.{Cell, Pred}
use Rattle.heap_formula.specs.Words.{Each}
use Rattle.pair_family.specs.BasePairs.{BasePair}
use Rattle.pair_family.specs.Reordering.{families_of}
use Rattle.pair_family.specs.States.{GivesBy}
use Rattle.pair_family.specs.Tables.{Table, pairs_of}

-- the base pairs that an atom may take from a table; a cell's are given
abbrev pub atom_pairs : Table → List BasePair → Spatial → List BasePair
atom_pairs table cell (Cell t ts) = cell
atom_pairs table cell (Pred p ts) = pairs_of table p

-- each atom has some base pair
abbrev pub HasSome : Table → List BasePair → List Spatial → Type 0
HasSome table cell xs = Each (λ x. 0 < length (atom_pairs table cell x)) xs

abbrev pub lists_of : Table → List BasePair → List Spatial → List (List BasePair)
lists_of table cell xs = map (atom_pairs table cell) xs

-- b is what atoms give, with pure atoms, for a predicate with k parameters
abbrev pub AtomsGive : Table → List BasePair → ℕ → List Pure → BasePair → List Spatial → Type 0
AtomsGive table cell k ps b xs = GivesBy (families_of (lists_of table cell xs)) k b
    (record { pure = ps; spatial = xs })
