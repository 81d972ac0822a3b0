-- Runs that take their choices from a list.
use Rattle.std.specs.Prelude.{◌≡◌, ℕ, zero, suc, ◌+◌, ◌^◌, ◌<◌, ◌≤◌, List, true, false, Option, Some, slice_get}
use Rattle.heap_formula.specs.declared.commands.Command.{Command}
use Rattle.heap_formula.specs.Programs.{Config as State, Faults, IsAtStop, command_at, greatest}
use Rattle.goto_lang.specs.States.{state_of}
use Rattle.goto_lang.specs.Steps.{MayTake, Leads}
use Rattle.general_models.specs.declared.runs.picks.Pick.{Pick}
use Rattle.general_models.specs.declared.runs.running.Cause.{Cause}
use Rattle.general_models.specs.declared.runs.running.Cause.TheVariants.{Stop, Fault, NoPick, BadPick, TooGreat}
use Rattle.general_models.specs.declared.runs.running.RunEnd.{RunEnd}
use Rattle.general_models.specs.declared.runs.running.RunEnd.TheVariants.{Ends, Reached}
use Rattle.general_models.specs.Picks.{suits, picks_of, address_of, fields_of}

-- words of 64 bits hold whatever may be picked in this state
abbrev pub HasRoom : ℕ → State → Type 0
HasRoom w c = greatest c + w < 2 ^ 64

-- a step from c to d under headroom w that takes this pick, if its command takes one
pub record PickedStep (lines : List Command) (w : ℕ) (pick : Option Pick) (c d : State) : Type 0 where
  pub room : HasRoom w c
  pub command : Command
  pub at : command_at lines c ≡ Some command
  pub suited : suits command pick ≡ true
  pub may : MayTake command w (address_of pick) (fields_of pick) c
  pub leads : Leads command (address_of pick) (fields_of pick) c d

-- n steps from c to d, which take the first k of the picks in order
abbrev pub PickedRun : List Command → ℕ → List Pick → ℕ → State → ℕ → State → Type 0
PickedRun lines w picks zero c k d = (k ≡ 0) × (d ≡ c)
PickedRun lines w picks (suc n) c k d =
    (j : ℕ) × (m : State) × PickedRun lines w picks n c j m × (s : PickedStep lines w (slice_get picks j) m d)
    × (k ≡ j + picks_of s.command)

-- why no step leads on from a state whose pick would be this one: it is at `stop`; its command faults; the pick is
-- missing or of another kind; it is not allowed; or words of 64 bits do not hold what may be picked
abbrev pub IsCause : List Command → ℕ → Option Pick → State → Cause → Type 0
IsCause lines w pick d Stop = HasRoom w d × IsAtStop lines d
IsCause lines w pick d Fault = HasRoom w d × ((x : Command) × (command_at lines d ≡ Some x) × Faults x d)
IsCause lines w pick d NoPick = HasRoom w d × ((x : Command) × (command_at lines d ≡ Some x) × (suits x pick ≡ false))
IsCause lines w pick d BadPick =
    HasRoom w d × ((x : Command) × (command_at lines d ≡ Some x) × (suits x pick ≡ true)
    × (¬ MayTake x w (address_of pick) (fields_of pick) d))
IsCause lines w pick d TooGreat = 2 ^ 64 ≤ greatest d + w

-- the run of at most so many steps from c: it ends after n of them for this reason, or makes them all
abbrev pub IsRunEnd : List Command → ℕ → List Pick → ℕ → State → RunEnd → Type 0
IsRunEnd lines w picks steps c (Ends n cause) =
    (n < steps) × (k : ℕ) × (d : State) × PickedRun lines w picks n c k d × IsCause lines w (slice_get picks k) d cause
IsRunEnd lines w picks steps c (Reached e) = (k : ℕ) × PickedRun lines w picks steps c k (state_of e)
