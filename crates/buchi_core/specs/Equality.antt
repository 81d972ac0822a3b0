-- When entries and forests are equal, and what is hashed of an entry: what a forest holds counts, and not the rest of
-- its array.
use Rattle.std.specs.Prelude.{Bool, ◌&&◌, nat_eq, cond, [], ◌++◌}
use Rattle.std.specs.Option.{option_eq}
use Rattle.std.specs.Cmp.{IsEquivalence, nat_eq_equiv, on_equiv, and_equiv}
use Rattle.std.specs.Cmp.Lexicographic.{pointwise, lists_equiv, options_equiv}
use Rattle.std.specs.Hash as fed
use Rattle.std.specs.Hash.{HashWrites}
use Rattle.buchi_core.specs.declared.entry.Entry.{Entry}
use Rattle.buchi_core.specs.declared.age_forest.AgeForest.{AgeForest}
use Rattle.buchi_core.specs.View.{used}

-- the parents are equal, and both halves of the sets
abbrev pub entry_eq : Entry → Entry → Bool
entry_eq x y = option_eq nat_eq x.parent y.parent && (nat_eq x.low y.low && nat_eq x.high y.high)

-- the entries are equal, one by one
abbrev pub forest_eq : AgeForest → AgeForest → Bool
forest_eq a b = pointwise entry_eq (used a) (used b)

-- an entry is hashed by its set, of which an empty high half is left out
abbrev pub entry_writes : Entry → HashWrites
entry_writes e = fed.u32 e.low ++ cond (nat_eq e.high 0) [] (fed.u32 e.high)

entry_equiv : IsEquivalence entry_eq
entry_equiv = and_equiv (on_equiv (λ (e : Entry). e.parent) (options_equiv nat_eq_equiv))
    (and_equiv (on_equiv (λ (e : Entry). e.low) nat_eq_equiv) (on_equiv (λ (e : Entry). e.high) nat_eq_equiv))

-- so it is with itself, both ways round and along a chain
pub forest_equiv : IsEquivalence forest_eq
forest_equiv = on_equiv used (lists_equiv entry_equiv)
