-- The entries of a step before any is dropped or lost, as far as they are made.
use Rattle.std.specs.Prelude.{ℕ, ◌≡◌, ◌<◌, ◌≤◌, false, ◌&&◌, List, Option, None, Some, length, get_or}
use Rattle.std.specs.List.{list_any}
use Rattle.buchi_core.specs.declared.young.Young.{Young}
use Rattle.buchi_core.specs.Forest.{Entry as AgeEntry, has, same_parent, stays}
use Rattle.buchi_core.specs.View.{entries_of}
use Rattle.cyc_basics.specs.Bits.{is_one}
use Rattle.cyc_basics.specs.declared.limits.TheConstants.{MOST_POSITIONS}

-- the plain data of the entries that are made
abbrev pub made : Young → List AgeEntry
made y = entries_of y.entries.items

-- the mask of what a child of the parent may still have, none if there is no such entry
abbrev pub left_of : Young → Option ℕ → ℕ
left_of y None = y.top
left_of y (Some p) = get_or y.left.items p 0

-- the masks say what a further child may have: what its parent has and none of the children. Only an entry that is made
-- has a child with a position
pub record AreLeft (y : Young) : Type 0 where
  pub long : length y.left.items ≡ length y.entries.items
  pub right : (o : Option ℕ) (q : ℕ) → q < MOST_POSITIONS → is_one (left_of y o) q ≡ stays (made y) o q
  pub childless : (p q : ℕ) → length y.entries.items ≤ p
      → list_any (λ e. same_parent e.parent (Some p) && has e.set q) (made y) ≡ false
