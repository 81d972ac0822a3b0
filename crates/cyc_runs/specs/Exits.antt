-- The number that a program ends with, as whoever called it sees it.
use Rattle.std.specs.Prelude.{◌≡◌, ◌⊎◌, ℕ, List, Option, Result, Ok, Err, true}
use Rattle.cyc_basics.specs.declared.memory.OutOfMemory.{OutOfMemory}
use Rattle.cyc_runs.specs.declared.endings.Status.{Status}
use Rattle.cyc_runs.specs.declared.endings.Status.TheVariants as status
use Rattle.cyc_runs.specs.Endings.{is_answer, status_code}
use Rattle.cyc_runs.specs.Runs.{Answering, WroteAnswer, WrotePart}

-- the number is the status's, 0 to 9; where no memory held the words it is 9
abbrev pub IsExitOf : Result Status OutOfMemory → ℕ → Type 0
IsExitOf (Ok ending) code = code ≡ status_code ending
IsExitOf (Err none) code = code ≡ 9

-- a program with these words ended with this number: that of a status of which this is true, or 9 where no memory held
-- the words
abbrev pub EndedBy : {Words : Type 0} → Result Words OutOfMemory → (Words → Status → Type 0) → ℕ → Type 0
EndedBy (Ok words) Is code = (ending : Status) × (code ≡ status_code ending) × Is words ending
EndedBy (Err none) Is code = code ≡ 9

-- a run with this status wrote the whole text of an answer, or a proper part of one, or nothing
pub record Wrote (answers : Answering) (told old new : Option (List ℕ)) (ending : Status) : Type 0 where
  pub answered : is_answer ending ≡ true → WroteAnswer answers told old new ending
  pub part : ending ≡ status.WriteFault → WrotePart answers told old new
  pub nothing : (ending ≡ status.ReadFault) ⊎ (ending ≡ status.OutOfMemory) → new ≡ old
