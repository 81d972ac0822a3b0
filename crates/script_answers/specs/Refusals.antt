-- How scripts are refused.
use Rattle.std.specs.Prelude.{Bool, true, false}
use Rattle.cyc_runs.specs.declared.endings.Status.{Status}
use Rattle.cyc_runs.specs.declared.endings.Status.TheVariants.{Unreadable, IllFormed, Limit}

-- a run that ends so has not answered what it was asked
abbrev pub is_refusal : Status → Bool
is_refusal Unreadable = true
is_refusal IllFormed = true
is_refusal Limit = true
is_refusal _ = false
