-- What stands at an address of a heap, as a test of it sees it.
use Rattle.std.specs.Prelude.{ℕ, Bool, true, List, Option, Some, None}
use Rattle.cyc_basics.specs.declared.limits.Limits.{Limits}
use Rattle.run_file.specs.Limits.{is_short_cell}

abbrev pub is_short_place : Limits → Option (List ℕ) → ℕ → Bool
is_short_place most None a = true
is_short_place most (Some vs) a = is_short_cell most a vs
