-- What the lines of a program keep.
use Rattle.std.specs.Prelude.{◌≡◌, ℕ, ◌<◌, ◌≤◌, List, map, length, Some}
use Rattle.cyc_basics.specs.declared.limits.TheConstants.{MOST_ARGUMENTS, MOST_LINES, MOST_VARIABLES}
use Rattle.heap_formula.specs.declared.commands.Command.{Command}
use Rattle.heap_formula.specs.declared.commands.Command.TheVariants.{Assign, Load, Store, New, Free, IfEq, IfNeq, IfAny}
use Rattle.heap_formula.specs.declared.commands.Command.TheVariants.{Goto, Stop, Ends}
use Rattle.heap_formula.specs.Words.{Each}
use Rattle.heap_formula.specs.Closedness.{IsUniversal}
use Rattle.heap_formula.specs.Programs.{counted_from_one, program_variables}

-- no existential variable stands in the command; those of an end are bound in it
abbrev pub IsUniversalCommand : Command → Type 0
IsUniversalCommand (Assign x t) = IsUniversal t
IsUniversalCommand (Load x t k) = IsUniversal t
IsUniversalCommand (Store t k u) = IsUniversal t × IsUniversal u
IsUniversalCommand (New x k) = Unit {0}
IsUniversalCommand (Free t) = IsUniversal t
IsUniversalCommand (IfEq t u j) = IsUniversal t × IsUniversal u
IsUniversalCommand (IfNeq t u j) = IsUniversal t × IsUniversal u
IsUniversalCommand (IfAny j) = Unit {0}
IsUniversalCommand (Goto j) = Unit {0}
IsUniversalCommand Stop = Unit {0}
IsUniversalCommand (Ends bs) = Unit {0}

-- the commands of numbered lines
abbrev pub commands_of : List (ℕ × Command) → List Command
commands_of ls = map (λ l. l.1) ls

abbrev pub IsFieldNumber : ℕ → Type 0
IsFieldNumber k = (0 < k) × (k ≤ MOST_ARGUMENTS)

abbrev pub IsLineOf : ℕ → ℕ → Type 0
IsLineOf n j = (0 < j) × (j ≤ n)

-- the command may stand at line i of n: its fields are 1 to 8, and wherever it leads is one of the lines
abbrev pub MayStandAt : ℕ → ℕ → Command → Type 0
MayStandAt n i (Assign x t) = i < n
MayStandAt n i (Load x t k) = (i < n) × IsFieldNumber k
MayStandAt n i (Store t k u) = (i < n) × IsFieldNumber k
MayStandAt n i (New x k) = (i < n) × IsFieldNumber k
MayStandAt n i (Free t) = i < n
MayStandAt n i (IfEq t u j) = (i < n) × IsLineOf n j
MayStandAt n i (IfNeq t u j) = (i < n) × IsLineOf n j
MayStandAt n i (IfAny j) = (i < n) × IsLineOf n j
MayStandAt n i (Goto j) = IsLineOf n j
MayStandAt n i Stop = Unit {0}
MayStandAt n i (Ends bs) = Unit {0}

-- at most 4,096 lines and 64 variables; each command may stand at its line
pub record IsProgram (lines : List Command) : Type 0 where
  pub few_lines : length lines ≤ MOST_LINES
  pub few_variables : program_variables lines ≤ MOST_VARIABLES
  pub commands : (i : ℕ) (x : Command) → counted_from_one lines i ≡ Some x → MayStandAt (length lines) i x
  pub universal : Each IsUniversalCommand lines
