-- The plain data that the code's types stand for.
use Rattle.std.specs.Prelude.{ℕ, List, map, take}
use Rattle.buchi_core.specs.Forest.{Entry as AgeEntry, places}
use Rattle.buchi_core.specs.declared.entry.Entry.{Entry}
use Rattle.buchi_core.specs.declared.age_forest.AgeForest.{AgeForest}
use Rattle.buchi_core.specs.Mask.{set_mask}
use Rattle.cyc_basics.specs.Bits.{is_one}
use Rattle.cyc_basics.specs.declared.limits.TheConstants.{MOST_POSITIONS}

-- the positions that a mask stands for: the places of its ones
unfoldable pub members : ℕ → List ℕ
members mask = places (is_one mask) 0 MOST_POSITIONS

-- the plain data of an entry
abbrev pub entry_of : Entry → AgeEntry
entry_of e = record { parent = e.parent; set = members (set_mask e) }

-- the plain data of entries
abbrev pub entries_of : List Entry → List AgeEntry
entries_of es = map entry_of es

-- the entries of a forest, oldest first, without the rest of its array
abbrev pub used : AgeForest → List Entry
used f = take f.len f.entries

-- their plain data
abbrev pub forest_of : AgeForest → List AgeEntry
forest_of f = entries_of (used f)
