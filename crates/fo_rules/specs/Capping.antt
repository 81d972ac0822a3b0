-- Sizes that are counted no further than the limit.
use Rattle.std.specs.Prelude.{ℕ, min}
use Rattle.cyc_basics.specs.declared.limits.TheConstants.{PAST_MOST_TERMS}

-- the size, or 4,097 if it passes the limit
abbrev pub capped : ℕ → ℕ
capped n = min PAST_MOST_TERMS n
