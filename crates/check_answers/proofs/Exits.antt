-- The number that a program ends with tells how its run ended.
use Rattle.std.proofs.Common.{◌≡◌, ℕ, Result, Ok, Err, ap, sym, refl, ◌∙◌, arith}
use Rattle.cyc_basics.specs.declared.memory.OutOfMemory.{OutOfMemory}
use Rattle.cyc_runs.specs.declared.endings.Status.{Status}
use Rattle.cyc_runs.specs.declared.endings.Status.TheVariants.{Success, Refused, Usage, Unreadable, IllFormed, Limit}
use Rattle.cyc_runs.specs.declared.endings.Status.TheVariants.{NotFound, ReadFault, WriteFault}
use Rattle.cyc_runs.specs.declared.endings.Status.TheVariants.{OutOfMemory as MemoryRefused}
use Rattle.cyc_runs.specs.Endings.{status_code}
use Rattle.cyc_runs.specs.Exits.{IsExitOf}

is_success : (s : Status) → status_code s ≡ 0 → s ≡ Success
is_success Success e = refl
is_success Refused e = absurd (omega (arith, e))
is_success Usage e = absurd (omega (arith, e))
is_success Unreadable e = absurd (omega (arith, e))
is_success IllFormed e = absurd (omega (arith, e))
is_success Limit e = absurd (omega (arith, e))
is_success NotFound e = absurd (omega (arith, e))
is_success ReadFault e = absurd (omega (arith, e))
is_success WriteFault e = absurd (omega (arith, e))
is_success MemoryRefused e = absurd (omega (arith, e))

is_refused : (s : Status) → status_code s ≡ 1 → s ≡ Refused
is_refused Success e = absurd (omega (arith, e))
is_refused Refused e = refl
is_refused Usage e = absurd (omega (arith, e))
is_refused Unreadable e = absurd (omega (arith, e))
is_refused IllFormed e = absurd (omega (arith, e))
is_refused Limit e = absurd (omega (arith, e))
is_refused NotFound e = absurd (omega (arith, e))
is_refused ReadFault e = absurd (omega (arith, e))
is_refused WriteFault e = absurd (omega (arith, e))
is_refused MemoryRefused e = absurd (omega (arith, e))

-- it ends with 0 by success alone
pub zero_is_success : (ended : Result Status OutOfMemory) (code : ℕ) → IsExitOf ended code → code ≡ 0
    → ended ≡ Ok Success
zero_is_success (Ok s) code is none = ap Ok (is_success s (sym is ∙ none))
zero_is_success (Err e) code is none = absurd (omega (arith, is, none))

-- and with 1 by a refusal alone
pub one_is_refusal : (ended : Result Status OutOfMemory) (code : ℕ) → IsExitOf ended code → code ≡ 1
    → ended ≡ Ok Refused
one_is_refusal (Ok s) code is one = ap Ok (is_refused s (sym is ∙ one))
one_is_refusal (Err e) code is one = absurd (omega (arith, is, one))
