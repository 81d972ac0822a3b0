-- What may occur in the search for a proof.
use Rattle.fo_formula.specs.declared.sequents.FoSequent.{FoSequent}
use Rattle.fo_formula.specs.declared.theory.FoTheory.{FoTheory}
use Rattle.fo_logic.specs.Limits.{IsTheoryWithin, IsSequentWithin}

-- a sequent within the limits, of a theory within them
abbrev pub MayOccur : FoTheory → FoSequent → Type 0
MayOccur t s = IsTheoryWithin t × IsSequentWithin t s
