-- Runs that show that a program does not halt.
use Rattle.std.specs.Prelude.{ℕ, ◌<◌, List, Option, Some, None, slice_get}
use Rattle.heap_formula.specs.declared.commands.Command.{Command}
use Rattle.heap_formula.specs.Programs.{Config as State}
use Rattle.goto_lang.specs.declared.configs.Config.{Config}
use Rattle.goto_lang.specs.States.{state_of}
use Rattle.general_models.specs.declared.runs.picks.Pick.{Pick}
use Rattle.general_models.specs.declared.runs.running.Cause.TheVariants.{Fault}
use Rattle.general_models.specs.declared.runs.refuting.Ending.{Ending}
use Rattle.general_models.specs.declared.runs.refuting.Ending.TheVariants.{FaultAfter, Repeat, Grow}
use Rattle.general_models.specs.Runs.{PickedRun, IsCause}
use Rattle.general_models.specs.Growing.{Alike, FreshRun, IsPaired}

-- the run with these picks from c faults after n steps; or it comes back, and is in one state after s and after t steps;
-- or it comes back with more: the state after the second number of steps is like that after the first, by these pairs,
-- and from the first state to the second each `new` takes a fresh cell
abbrev pub IsRefuting : List Command → ℕ → List Pick → State → Ending → Type 0
IsRefuting lines w picks c (FaultAfter n) =
    (k : ℕ) × (d : State) × PickedRun lines w picks n c k d × IsCause lines w (slice_get picks k) d Fault
IsRefuting lines w picks c (Repeat s t) =
    (s < t) × (j : ℕ) × (k : ℕ) × (d : State) × PickedRun lines w picks s c j d × PickedRun lines w picks t c k d
IsRefuting lines w picks c (Grow g) =
    (g.first < g.again) × (j : ℕ) × (k : ℕ) × (d : State) × (e : State) × PickedRun lines w picks g.first c j d
    × FreshRun lines w picks g.first g.again c k e × Alike (IsPaired g.renaming) d e

-- the state after so many steps; none where the run does not make them
abbrev pub IsState : List Command → ℕ → List Pick → ℕ → State → Option Config → Type 0
IsState lines w picks steps c None = (k : ℕ) (d : State) → PickedRun lines w picks steps c k d → ⊥
IsState lines w picks steps c (Some e) = (k : ℕ) × PickedRun lines w picks steps c k (state_of e)
