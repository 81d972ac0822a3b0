-- One step of a run, as the code answers it.
use Rattle.std.specs.Prelude.{ℕ, List, Option}
use Rattle.heap_formula.specs.declared.commands.Command.{Command}
use Rattle.heap_formula.specs.Programs.{Config as State}
use Rattle.goto_lang.specs.States.{state_of, IsStateOf}
use Rattle.general_models.specs.declared.runs.picks.Pick.{Pick}
use Rattle.general_models.specs.declared.runs.running.Move.{Move}
use Rattle.general_models.specs.declared.runs.running.Move.TheVariants.{To, None}
use Rattle.general_models.specs.Runs.{PickedStep, IsCause}

abbrev pub IsMove : List Command → ℕ → Option Pick → State → Move → Type 0
IsMove lines w pick c (To d) = PickedStep lines w pick c (state_of d) × IsStateOf lines (state_of d)
IsMove lines w pick c (None cause) = IsCause lines w pick c cause
