-- The set of an entry as one mask.
use Rattle.std.specs.Prelude.{ℕ, ◌+◌, ◌*◌}
use Rattle.buchi_core.specs.declared.entry.Entry.{Entry}
use Rattle.buchi_core.specs.declared.halves.TheConstants.{HALF}

-- its two halves
abbrev pub set_mask : Entry → ℕ
set_mask e = e.high * HALF + e.low
