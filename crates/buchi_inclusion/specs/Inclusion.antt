-- What the answer of the inclusion says.
use Rattle.std.specs.Prelude.{ℕ, List}
use Rattle.trace_pairs.specs.Graph.{Node}
use Rattle.trace_pairs.specs.Lasso.{IsLasso, Progresses, AllProgress}
use Rattle.buchi_inclusion.specs.Answers.{HasAtMost, HasMoreThan}
use Rattle.buchi_inclusion.specs.declared.Inclusion.{Inclusion}
use Rattle.buchi_inclusion.specs.declared.Inclusion.TheVariants.{Included, Counter, TooManyStates}
use Rattle.buchi_inclusion.specs.declared.Progress.{Progress}
use Rattle.buchi_inclusion.specs.declared.Progress.TheVariants as short

-- what an answer says: every lasso progresses; the lasso is one that doesn't; and in both cases the number of product
-- states is within the limit; or that number is above it
abbrev pub IsInclusion : List Node → ℕ → Inclusion → Type 0
IsInclusion g limit Included = AllProgress g × HasAtMost g limit
IsInclusion g limit (Counter l) = IsLasso g l × (Progresses g l → ⊥) × HasAtMost g limit
IsInclusion g limit TooManyStates = HasMoreThan g limit

-- the same without a lasso. The three exclude one another, so each comes exactly where what it says is true
abbrev pub IsProgress : List Node → ℕ → Progress → Type 0
IsProgress g limit short.Progresses = AllProgress g × HasAtMost g limit
IsProgress g limit short.DoesNot = (AllProgress g → ⊥) × HasAtMost g limit
IsProgress g limit short.TooManyStates = HasMoreThan g limit

-- the two answers are of one kind
abbrev pub IsSameKind : Inclusion → Inclusion → Type 0
IsSameKind Included Included = Unit {0}
IsSameKind Included (Counter m) = ⊥
IsSameKind Included TooManyStates = ⊥
IsSameKind (Counter l) Included = ⊥
IsSameKind (Counter l) (Counter m) = Unit {0}
IsSameKind (Counter l) TooManyStates = ⊥
IsSameKind TooManyStates Included = ⊥
IsSameKind TooManyStates (Counter m) = ⊥
IsSameKind TooManyStates TooManyStates = Unit {0}
