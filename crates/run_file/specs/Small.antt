-- Picks that a text may name.
use Rattle.general_models.specs.declared.runs.picks.Pick.{Pick}
use Rattle.general_models.specs.declared.runs.picks.Pick.TheVariants.{Cell, Jumps}
use Rattle.model_file.specs.Small.{IsShortCell}

-- its numbers have at most nine digits
abbrev pub IsShortPick : Pick → Type 0
IsShortPick (Cell a vs) = IsShortCell (record { address = a; fields = vs })
IsShortPick (Jumps b) = Unit {0}
