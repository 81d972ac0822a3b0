-- The first flaw of a file's statements, as it shows in what is kept of them.
use Rattle.std.specs.Prelude.{◌≡◌, ◌≤◌, ℕ, None}
use Rattle.cyc_basics.specs.declared.limits.Limits.{Limits}
use Rattle.cyc_basics.specs.declared.limits.TheConstants.{MOST_DISJUNCTS}
use Rattle.heap_reader.specs.Flaws.{Found}

-- so many members kept of each list are no fewer than what is allowed of it
pub record KeepsEnough (most : Limits) (m : ℕ) : Type 0 where
  pub pure : most.pure ≤ m
  pub spatial : most.spatial ≤ m
  pub cases : most.cases ≤ m
  pub disjuncts : MOST_DISJUNCTS ≤ m

-- what is kept of a tree has the flaw that the tree has
abbrev pub HasItsFlaw : {X : Type 0} → (X → Found) → (X → X) → X → Type 0
HasItsFlaw flaw front x = flaw (front x) ≡ flaw x

-- all is kept of a tree without a flaw
abbrev pub IsWholeIfFlawless : {X : Type 0} → (X → Found) → (X → X) → X → Type 0
IsWholeIfFlawless flaw front x = flaw x ≡ None → front x ≡ x
