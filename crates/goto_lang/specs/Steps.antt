-- One step of a program.
use Rattle.std.specs.Prelude.{◌≡◌, ℕ, ◌+◌, ◌≤◌, List, Some, nat_eq, if◌then◌else◌, slice_set}
use Rattle.std.specs.FinMap.{insert}
use Rattle.heap_formula.specs.declared.commands.Command.{Command}
use Rattle.heap_formula.specs.declared.commands.Command.TheVariants.{New, IfAny}
use Rattle.heap_formula.specs.Programs.{Config as State, Goes, Faults, IsAtStop, MayPick, command_at, next_line, jump}
use Rattle.goto_lang.specs.declared.steps.Stepped.{Stepped}
use Rattle.goto_lang.specs.declared.steps.Stepped.TheVariants.{Stop, Fault, To, BadPick}
use Rattle.goto_lang.specs.States.{state_of}

-- where the command is `new`, it may take this address and these values under headroom w; `if *` may take 0 and 1
abbrev pub MayTake : Command → ℕ → ℕ → List ℕ → State → Type 0
MayTake (New x k) w a vs c = MayPick w c k a vs
MayTake (IfAny j) w a vs c = a ≤ 1
MayTake x w a vs c = Unit {0}

-- the command leads from c to d: `new` takes this address and these values, and `if *` jumps where 1 is picked; the
-- headroom matters to `new` alone
abbrev pub Leads : Command → ℕ → List ℕ → State → State → Type 0
Leads (New x k) a vs c d = d ≡ next_line c (slice_set c.stack x a) (insert c.heap a vs)
Leads (IfAny j) a vs c d = d ≡ jump c (if nat_eq a 1 then j else c.line + 1)
Leads x a vs c d = Goes x 0 c d

-- the step from c: it is at `stop`; it faults; it leads to d with an allowed pick; its pick is not allowed
abbrev pub IsStep : List Command → ℕ → ℕ → List ℕ → State → Stepped → Type 0
IsStep lines w a vs c Stop = IsAtStop lines c
IsStep lines w a vs c Fault = (x : Command) × (command_at lines c ≡ Some x) × Faults x c
IsStep lines w a vs c (To d) =
    (x : Command) × (command_at lines c ≡ Some x) × MayTake x w a vs c × Leads x a vs c (state_of d)
IsStep lines w a vs c BadPick = (x : Command) × (command_at lines c ≡ Some x) × (¬ MayTake x w a vs c)

-- d is a successor of c under headroom w
abbrev pub IsSuccessor : List Command → ℕ → State → State → Type 0
IsSuccessor lines w c d = (x : Command) × (command_at lines c ≡ Some x) × Goes x w c d
