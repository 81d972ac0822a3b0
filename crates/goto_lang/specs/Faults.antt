-- Why numbered lines are no program: the first fault in the order of the text.
use Rattle.std.specs.Prelude.{◌≡◌, ℕ, ◌+◌, Result, Ok, Err, List, [], ◌∷◌, length, Bool, true, false, not, ◌&&◌, ◌||◌}
use Rattle.std.specs.Prelude.{nat_eq, nat_lt, if◌then◌else◌, map, Option, Some, None}
use Rattle.std.specs.Option.{option_or}
use Rattle.cyc_basics.specs.declared.limits.TheConstants.{GREATEST_PROGRAM_VARIABLE, MOST_ARGUMENTS, MOST_LINES}
use Rattle.cyc_basics.specs.declared.limits.TheConstants.{MOST_VARIABLES}
use Rattle.heap_formula.specs.declared.terms.Term.{Term}
use Rattle.heap_formula.specs.declared.terms.Term.TheVariants.{Nil, Univ, Exist}
use Rattle.heap_formula.specs.declared.commands.Command.{Command}
use Rattle.heap_formula.specs.declared.commands.Command.TheVariants.{Assign, Load, Store, New, Free, IfEq, IfNeq, IfAny}
use Rattle.heap_formula.specs.declared.commands.Command.TheVariants.{Goto, Stop, Ends}
use Rattle.heap_formula.specs.declared.heaps.Count.TheVariants.{Lines, ProgramVariables, Fields}
use Rattle.heap_formula.specs.Fresh.{heap_bound}
use Rattle.heap_formula.specs.Symbolic.{SymbolicHeap}
use Rattle.heap_formula.specs.Words.{max_of}
use Rattle.goto_lang.specs.declared.faults.ProgramFault.{ProgramFault}
use Rattle.goto_lang.specs.declared.faults.ProgramFault.TheVariants.{Jump, FallsOff, Numbering, Limit, OutOfMemory}

abbrev pub variable_fault : ℕ → Option ProgramFault
variable_fault x = if nat_lt GREATEST_PROGRAM_VARIABLE x then Some (Limit ProgramVariables) else None

abbrev pub term_fault : Term → Option ProgramFault
term_fault Nil = None
term_fault (Univ x) = variable_fault x
term_fault (Exist x) = None

-- a number of fields, or of a field
abbrev pub field_fault : ℕ → Option ProgramFault
field_fault k = if nat_eq k 0 || nat_lt MOST_ARGUMENTS k then Some (Limit Fields) else None

-- line i of n goes to line j
abbrev pub jump_fault : ℕ → ℕ → ℕ → Option ProgramFault
jump_fault n i j = if nat_eq j 0 || nat_lt n j then Some (Jump i) else None

-- a universal variable of an end is one of the program's
abbrev pub ends_fault : List SymbolicHeap → Option ProgramFault
ends_fault bs = if nat_lt MOST_VARIABLES (max_of (map heap_bound bs)) then Some (Limit ProgramVariables) else None

-- the first fault in the command of line i of n, in the order of its words
abbrev pub command_fault : ℕ → ℕ → Command → Option ProgramFault
command_fault n i (Assign x t) = option_or (variable_fault x) (term_fault t)
command_fault n i (Load x t k) = option_or (variable_fault x) (option_or (term_fault t) (field_fault k))
command_fault n i (Store t k u) = option_or (term_fault t) (option_or (field_fault k) (term_fault u))
command_fault n i (New x k) = option_or (variable_fault x) (field_fault k)
command_fault n i (Free t) = term_fault t
command_fault n i (IfEq t u j) = option_or (term_fault t) (option_or (term_fault u) (jump_fault n i j))
command_fault n i (IfNeq t u j) = option_or (term_fault t) (option_or (term_fault u) (jump_fault n i j))
command_fault n i (IfAny j) = jump_fault n i j
command_fault n i (Goto j) = jump_fault n i j
command_fault n i Stop = None
command_fault n i (Ends bs) = ends_fault bs

-- after the command the run may go on with the next line
abbrev pub goes_on : Command → Bool
goes_on (Goto j) = false
goes_on Stop = false
goes_on (Ends bs) = false
goes_on x = true

-- the first fault of line i of n: it is the last and may fall off; it is too many; its number; its command
abbrev pub line_fault : ℕ → ℕ → ℕ × Command → Option ProgramFault
line_fault n i l =
    if nat_eq i n && goes_on l.1 then Some FallsOff
    else if nat_lt MOST_LINES i then Some (Limit Lines)
    else if not (nat_eq l.0 i) then Some (Numbering i)
    else command_fault n i l.1

-- the first fault of the lines from line i on, of n lines in all
abbrev pub lines_fault : ℕ → ℕ → List (ℕ × Command) → Option ProgramFault
lines_fault n i [] = None
lines_fault n i (l ∷ ls) = option_or (line_fault n i l) (lines_fault n (i + 1) ls)

abbrev pub program_fault : List (ℕ × Command) → Option ProgramFault
program_fault ls = lines_fault (length ls) 1 ls

-- the answer for lines whose first fault is this one; out of memory is free
abbrev pub IsAnswer : {X : Type 0} → Result X ProgramFault → Option ProgramFault → Type 0
IsAnswer (Ok _) fault = fault ≡ None
IsAnswer (Err OutOfMemory) fault = Unit {0}
IsAnswer (Err FallsOff) fault = fault ≡ Some FallsOff
IsAnswer (Err (Jump i)) fault = fault ≡ Some (Jump i)
IsAnswer (Err (Numbering i)) fault = fault ≡ Some (Numbering i)
IsAnswer (Err (Limit count)) fault = fault ≡ Some (Limit count)
