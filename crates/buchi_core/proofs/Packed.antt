-- The entries that stay are few enough for the array of a forest.
use Rattle.std.proofs.Common.{◌≡◌, ℕ, ◌≤◌, List, length, arith, ap, ◌∙◌}
use Rattle.buchi_core.specs.Forest.{Pair, Entry as AgeEntry, before_drop, settle, next_forest}
use Rattle.buchi_core.specs.declared.entry.Entry.{Entry}
use Rattle.buchi_core.specs.View.{entries_of}
use Rattle.buchi_core.proofs.Entries.{next_short}

-- a forest after a step has at most as many entries as there are positions
pub few_settled : (pairs : List Pair) (positions : List ℕ) (forest : List AgeEntry) (grown read : List Entry)
    → entries_of grown ≡ before_drop pairs positions forest → read ≡ grown
    → length (settle (entries_of read)) ≤ length positions
few_settled pairs positions forest grown read g r =
    let e : settle (entries_of read) ≡ next_forest pairs positions forest = ap
    (λ (z : List Entry). settle (entries_of z)) r ∙ ap settle g in
    omega (arith, ap length e, next_short pairs positions forest)
