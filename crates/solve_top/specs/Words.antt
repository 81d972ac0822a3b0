-- What the words ask for.
use Rattle.std.specs.Prelude.{ℕ, ◌-◌, ◌&&◌, nat_le, List, [], ◌∷◌, codes, Option, Some, None, if◌then◌else◌}
use Rattle.std.specs.Str.{bytes_eq}
use Rattle.solver.specs.declared.budgets.TheConstants.{DEFAULT_EFFORT}

-- a digit from 1 to 9 alone
abbrev pub digit_of : List ℕ → Option ℕ
digit_of [] = None
digit_of (digit ∷ []) = if nat_le 49 digit && nat_le digit 57 then Some (digit - 48) else None
digit_of (digit ∷ second ∷ others) = None

-- the effort: no words ask for the usual one, `--effort N` for N
abbrev pub effort_of : List (List ℕ) → Option ℕ
effort_of [] = Some DEFAULT_EFFORT
effort_of (word ∷ []) = None
effort_of (word ∷ number ∷ []) = if bytes_eq word (codes "--effort") then digit_of number else None
effort_of (word ∷ number ∷ third ∷ others) = None
