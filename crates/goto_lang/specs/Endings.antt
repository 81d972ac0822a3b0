-- The run in which `new` takes the least free address and fills with 0, and `if *` goes to the next line.
use Rattle.std.specs.Prelude.{◌≡◌, ℕ, zero, suc, ◌≤◌, List, [], replicate, Some}
use Rattle.heap_formula.specs.declared.commands.Command.{Command}
use Rattle.heap_formula.specs.declared.commands.Command.TheVariants.{New, IfAny}
use Rattle.heap_formula.specs.Cells.{Cells}
use Rattle.heap_formula.specs.Programs.{Config as State, Faults, IsStop, IsAtStop, command_at}
use Rattle.goto_lang.specs.declared.runs.Ran.{Ran}
use Rattle.goto_lang.specs.declared.runs.Ran.TheVariants.{Stopped, Faulted, Running}
use Rattle.goto_lang.specs.declared.steps.Stepped.{Stepped}
use Rattle.goto_lang.specs.declared.steps.Stepped.TheVariants.{Stop, Fault, To, BadPick}
use Rattle.goto_lang.specs.States.{state_of, IsStateOf, IsLeastFree}
use Rattle.goto_lang.specs.Steps.{Leads}

-- the fields of a new cell, each 0
abbrev pub zero_fields : Command → List ℕ
zero_fields (New x k) = replicate k 0
zero_fields x = []

-- what a command takes: `if *` takes 0
abbrev pub IsLowestPick : Command → Cells → ℕ → Type 0
IsLowestPick (IfAny j) h a = a ≡ 0
IsLowestPick x h a = IsLeastFree h a

-- a step from c to d
abbrev pub LowestStep : List Command → State → State → Type 0
LowestStep lines c d =
    (x : Command) × (a : ℕ) × (command_at lines c ≡ Some x) × IsLowestPick x c.heap a × Leads x a (zero_fields x) c d

-- n steps from c to d
abbrev pub LowestRun : List Command → ℕ → State → State → Type 0
LowestRun lines zero c d = d ≡ c
LowestRun lines (suc n) c d = (m : State) × LowestRun lines n c m × LowestStep lines m d

-- the run from c, of at most this many steps: it stops after n, it faults after n, or it makes them all and does
-- neither then
abbrev pub IsEnding : List Command → ℕ → State → Ran → Type 0
IsEnding lines steps c (Stopped n) = (n ≤ steps) × (d : State) × LowestRun lines n c d × IsAtStop lines d
IsEnding lines steps c (Faulted n) =
    (n ≤ steps) × (d : State) × (x : Command) × LowestRun lines n c d × (command_at lines d ≡ Some x) × Faults x d
IsEnding lines steps c Running =
    (d : State) × (x : Command) × LowestRun lines steps c d × (command_at lines d ≡ Some x) × (¬ IsStop x)
    × (¬ Faults x d)

-- the step from c that picks as above: it is at `stop`, it faults, or it leads to a state of the program
abbrev pub IsLowest : List Command → State → Stepped → Type 0
IsLowest lines c Stop = IsAtStop lines c
IsLowest lines c Fault = (x : Command) × (command_at lines c ≡ Some x) × Faults x c
IsLowest lines c (To d) = LowestStep lines c (state_of d) × IsStateOf lines (state_of d)
IsLowest lines c BadPick = ⊥
