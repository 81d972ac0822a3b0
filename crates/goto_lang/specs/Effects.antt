-- What a command makes of a state where its pick is allowed.
use Rattle.std.specs.Prelude.{◌≡◌, ℕ, ◌-◌, List, Some, None, slice_set}
use Rattle.std.specs.FinMap.{insert, remove}
use Rattle.heap_formula.specs.declared.commands.Command.{Command}
use Rattle.heap_formula.specs.Cells.{cell_at}
use Rattle.heap_formula.specs.Programs.{Config as State, Faults, IsStop, counted_from_one, field_at, next_line, jump}
use Rattle.goto_lang.specs.declared.steps.Stepped.{Stepped}
use Rattle.goto_lang.specs.declared.steps.Stepped.TheVariants.{Stop, Fault, To, BadPick}
use Rattle.goto_lang.specs.States.{state_of}
use Rattle.goto_lang.specs.Steps.{Leads}

abbrev pub Makes : Command → ℕ → List ℕ → State → Stepped → Type 0
Makes x a vs c Stop = IsStop x
Makes x a vs c Fault = Faults x c
Makes x a vs c (To d) = Leads x a vs c (state_of d)
Makes x a vs c BadPick = ⊥

-- what `x := address.k` makes of c
abbrev pub IsLoad : ℕ → ℕ → ℕ → State → Stepped → Type 0
IsLoad x a k c Stop = ⊥
IsLoad x a k c Fault = field_at c.heap a k ≡ None
IsLoad x a k c (To d) =
    (v : ℕ) × (field_at c.heap a k ≡ Some v) × (state_of d ≡ next_line c (slice_set c.stack x v) c.heap)
IsLoad x a k c BadPick = ⊥

-- what `address.k := v` makes of c
abbrev pub IsStore : ℕ → ℕ → ℕ → State → Stepped → Type 0
IsStore a k v c Stop = ⊥
IsStore a k v c Fault = field_at c.heap a k ≡ None
IsStore a k v c (To d) =
    (vs : List ℕ) × (u : ℕ) × (cell_at c.heap a ≡ Some vs) × (counted_from_one vs k ≡ Some u)
    × (state_of d ≡ next_line c c.stack (insert c.heap a (slice_set vs (k - 1) v)))
IsStore a k v c BadPick = ⊥

-- what `free address` makes of c
abbrev pub IsFree : ℕ → State → Stepped → Type 0
IsFree a c Stop = ⊥
IsFree a c Fault = cell_at c.heap a ≡ None
IsFree a c (To d) = (vs : List ℕ) × (cell_at c.heap a ≡ Some vs) × (state_of d ≡ next_line c c.stack (remove c.heap a))
IsFree a c BadPick = ⊥

-- the step goes to this line
abbrev pub IsJump : ℕ → State → Stepped → Type 0
IsJump j c Stop = ⊥
IsJump j c Fault = ⊥
IsJump j c (To d) = state_of d ≡ jump c j
IsJump j c BadPick = ⊥
