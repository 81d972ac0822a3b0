-- States of a program's runs.
use Rattle.std.specs.Prelude.{◌≡◌, ℕ, ◌<◌, ◌≤◌, List, length, None, IsSome}
use Rattle.heap_formula.specs.declared.commands.Command.{Command}
use Rattle.heap_formula.specs.Cells.{Cells, cell_at}
use Rattle.heap_formula.specs.Programs.{Config as State, program_variables}
use Rattle.goto_lang.specs.declared.configs.Config.{Config}

-- the state that a configuration is
abbrev pub state_of : Config → State
state_of c = record { line = c.line; stack = c.stack; heap = c.heap }

-- the line is one of the program's, and each of its variables has a value
pub record IsStateOf (lines : List Command) (c : State) : Type 0 where
  pub from_one : 0 < c.line
  pub to_last : c.line ≤ length lines
  pub values : length c.stack ≡ program_variables lines

-- the least positive address without a cell
pub record IsLeastFree (h : Cells) (a : ℕ) : Type 0 where
  pub positive : 0 < a
  pub free : cell_at h a ≡ None
  pub least : (b : ℕ) → 0 < b → b < a → IsSome (cell_at h b)
