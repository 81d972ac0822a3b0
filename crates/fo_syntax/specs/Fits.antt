-- Which signs may be written.
use Rattle.std.specs.Prelude.{◌≡◌, ◌<◌, ◌^◌, Bool, true, List, [], ◌∷◌}
use Rattle.fo_syntax.specs.Words.{free_name}
use Rattle.fo_syntax.specs.Trees.{Sign, Variable, Local, Apply}

-- a number of at most nine digits, a local where those may stand, a name that is not reserved
abbrev pub FitsSign : Bool → Sign → Type 0
FitsSign locals (Variable n) = n < 10 ^ 9
FitsSign locals (Local n) = (locals ≡ true) × (n < 10 ^ 9)
FitsSign locals (Apply name n) = free_name.fits name

abbrev pub FitSigns : Bool → List Sign → Type 0
FitSigns locals [] = Unit {0}
FitSigns locals (s ∷ ss) = FitsSign locals s × FitSigns locals ss
