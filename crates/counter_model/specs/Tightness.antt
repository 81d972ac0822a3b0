-- Stacks that name values in ascending order: each entry is at most one more than all before it.
use Rattle.std.specs.Prelude.{◌≡◌, ℕ, ◌+◌, ◌<◌, ◌≤◌, ◌⊎◌, max, [], ◌∷◌, ◌++◌, length}
use Rattle.heap_formula.specs.Words.{Each, max_of}
use Rattle.heap_formula.specs.Values.{Stack}

-- some entry is above 1 and above 1 more than each entry before it, and m
abbrev pub Breaks : ℕ → Stack → Type 0
Breaks m [] = ⊥
Breaks m (v ∷ s) = (m + 1 < v) ⊎ Breaks (max m v) s

-- so many entries from 0 to n
pub record IsStack (n long : ℕ) (s : Stack) : Type 0 where
  pub count : length s ≡ long
  pub entries : Each (λ v. v ≤ n) s

-- these entries and one more, at most 1 above the greatest of them
pub record IsStep (n : ℕ) (l e : Stack) : Type 0 where
  pub next : ℕ
  pub small : next ≤ n
  pub tight : next ≤ max_of l + 1
  pub whole : e ≡ l ++ next ∷ []
