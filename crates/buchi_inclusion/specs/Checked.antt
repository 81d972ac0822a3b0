-- What the answer for a proof system says.
use Rattle.std.specs.Prelude.{ℕ, Bool, List, Option, MatchOption}
use Rattle.trace_pairs.specs.Graph.{Node}
use Rattle.trace_pairs.specs.Lasso.{IsLasso, Progresses, AllProgress}
use Rattle.trace_pairs.specs.System.{NoneFaulty, IsLeastFaulty}
use Rattle.buchi_inclusion.specs.Answers.{HasAtMost, HasMoreThan}
use Rattle.buchi_inclusion.specs.declared.system.Checked.{Checked}
use Rattle.buchi_inclusion.specs.declared.system.Checked.TheVariants.{Accepted, Faulty, PathRefused, TooManyStates}

-- the least faulty node, or none is faulty
abbrev pub FindsFaulty : List Node → (ℕ → Bool) → Option ℕ → Type 0
FindsFaulty g faulty found = MatchOption found (NoneFaulty g faulty) (λ n. IsLeastFaulty g faulty n)

-- what an answer says. The four exclude one another, so each comes exactly where what it says is true
abbrev pub IsChecked : List Node → (ℕ → Bool) → (ℕ → (ℕ → ℕ) → Type 0) → ℕ → Checked → Type 0
IsChecked g faulty Holds limit Accepted = NoneFaulty g faulty × AllProgress g × HasAtMost g limit
    × ((stages : ℕ → ℕ) → Holds 0 stages)
IsChecked g faulty Holds limit (Faulty n) = IsLeastFaulty g faulty n
IsChecked g faulty Holds limit (PathRefused l) = NoneFaulty g faulty × IsLasso g l × (Progresses g l → ⊥)
    × HasAtMost g limit
IsChecked g faulty Holds limit TooManyStates = NoneFaulty g faulty × HasMoreThan g limit
