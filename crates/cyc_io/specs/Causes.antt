-- When a call may answer that the outside failed.
use Rattle.std.specs.Prelude.{ℕ, ◌+◌, ◌-◌, ◌^◌, ◌≤◌, min, OnErr, OnOk, Result, ◌≡◌}

-- a count of faults has risen, or stands at the greatest `u64`
abbrev pub Rose : ℕ → ℕ → Type 0
Rose before now = min (before + 1) (2 ^ 64 - 1) ≤ now

-- a count one higher, which stands still at the greatest `u64`
abbrev pub risen : ℕ → ℕ
risen n = min (n + 1) (2 ^ 64 - 1)

-- the count never falls, stands at `Ok`, and an `Err` comes only where it rose
pub record HasCause {T E : Type 0} (before now : ℕ) (result : Result T E) : Type 0 where
  pub later : before ≤ now
  pub no_faults : OnOk result (now ≡ before)
  pub failed : OnErr result (Rose before now)
