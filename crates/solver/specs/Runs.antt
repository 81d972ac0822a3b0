-- Runs as a run file tells them.
use Rattle.std.specs.Prelude.{◌≡◌, ℕ, List, Some}
use Rattle.heap_formula.specs.declared.commands.Command.{Command}
use Rattle.heap_formula.specs.declared.commands.Command.TheVariants as commands
use Rattle.heap_formula.specs.Definitions.{Definition}
use Rattle.heap_formula.specs.Meaning.{Satisfies, SatisfiesOne}
use Rattle.heap_formula.specs.Programs.{Config as State, command_at, start_at}
use Rattle.heap_formula.specs.Symbolic.{SymbolicHeap}
use Rattle.general_models.specs.declared.runs.picks.Pick.{Pick}
use Rattle.general_models.specs.declared.runs.refuting.Ending.TheVariants.{FaultAfter, Repeat, Grow}
use Rattle.general_models.specs.Picks.{headroom_of}
use Rattle.general_models.specs.Refuting.{IsRefuting}
use Rattle.general_models.specs.Runs.{PickedRun}
use Rattle.run_file.specs.declared.tree.Outcome.{Outcome}
use Rattle.run_file.specs.declared.tree.Outcome.TheVariants.{Faults, Repeats, Grows, Breaks}
use Rattle.run_file.specs.declared.file.RunFile.{RunFile}

-- the run makes so many steps, and this is so of the state then
abbrev pub ComesTo : List Command → ℕ → List Pick → State → ℕ → (State → Type 0) → Type 0
ComesTo lines w picks c steps Property = (k : ℕ) × (d : State) × PickedRun lines w picks steps c k d × Property d

-- after so many steps the run is at this line
abbrev pub IsAt : List Command → ℕ → List Pick → State → ℕ → ℕ → Type 0
IsAt lines w picks c steps line = ComesTo lines w picks c steps (λ d. d.line ≡ line)

-- the state is at a `stop` with an end, and its stack and its whole heap satisfy no disjunct of that
abbrev pub BreaksEnd : List Definition → List Command → State → Type 0
BreaksEnd ds lines d =
    (bs : List SymbolicHeap) × (command_at lines d ≡ Some (commands.Ends bs)) × (¬ SatisfiesOne ds d.stack d.heap bs)

-- from a state the run ends as is told: the command at the line faults after so many steps; or the run comes back,
-- perhaps with more; or after so many steps it stops at an end that does not hold
abbrev pub EndsSo : List Definition → List Command → ℕ → List Pick → State → Outcome → Type 0
EndsSo ds lines w picks c (Faults line step) =
    IsRefuting lines w picks c (FaultAfter step) × IsAt lines w picks c step line
EndsSo ds lines w picks c (Repeats first again) = IsRefuting lines w picks c (Repeat first again)
EndsSo ds lines w picks c (Grows growth) = IsRefuting lines w picks c (Grow growth)
EndsSo ds lines w picks c (Breaks step) = ComesTo lines w picks c step (BreaksEnd ds lines)

-- where the run of a file begins
abbrev pub start_of : RunFile → State
start_of r = start_at r.program r.line r.stack r.heap

-- the stack and the heap satisfy the precondition, and the run from there ends as the file tells
pub record IsRight (r : RunFile) : Type 0 where
  pub begins : Satisfies r.defs.list r.stack r.heap r.precondition
  pub run : EndsSo r.defs.list r.program (headroom_of r.picks.items) r.picks.items (start_of r) r.outcome
