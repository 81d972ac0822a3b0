-- The ways in which a run ends.
use Rattle.std.specs.Prelude.{ℕ, Bool, true, false}
use Rattle.cyc_runs.specs.declared.endings.Status.{Status}
use Rattle.cyc_runs.specs.declared.endings.Status.TheVariants.{Success, Refused, Usage, Unreadable, IllFormed, Limit}
use Rattle.cyc_runs.specs.declared.endings.Status.TheVariants.{NotFound, ReadFault, WriteFault, OutOfMemory}

-- the exit status of the program
abbrev pub status_code : Status → ℕ
status_code Success = 0
status_code Refused = 1
status_code Usage = 2
status_code Unreadable = 3
status_code IllFormed = 4
status_code Limit = 5
status_code NotFound = 6
status_code ReadFault = 7
status_code WriteFault = 8
status_code OutOfMemory = 9

-- the run ended with an answer
abbrev pub is_answer : Status → Bool
is_answer ReadFault = false
is_answer WriteFault = false
is_answer OutOfMemory = false
is_answer _ = true
