-- How the faults of a node of a first-order proof are named in the printed lines.
use Rattle.std.specs.Prelude.{ℕ, List, codes, Option, Some, None}
use Rattle.fo_formula.specs.declared.table.faults.FoFault.{FoFault}
use Rattle.fo_formula.specs.declared.table.faults.FoFault.TheVariants.{NoSuchAtom, NotEquation, AtomsDiffer, NotAbsurd}
use Rattle.fo_formula.specs.declared.table.faults.FoFault.TheVariants.{NoSuchCase, TooManyAtoms, NoFreshVariable}
use Rattle.fo_formula.specs.declared.table.faults.FoFault.TheVariants.{PremiseCount, PremiseDiffers, NoSuchNode}
use Rattle.fo_formula.specs.declared.table.faults.FoFault.TheVariants.{NotVariable, TooManyTerms, LinkLeft, LinkRight}
use Rattle.fo_formula.specs.declared.table.faults.FoFault.TheVariants.{TermCount}

abbrev pub fault_name_of : FoFault → List ℕ
fault_name_of NoSuchAtom = codes "NoSuchAtom"
fault_name_of NotEquation = codes "NotEquation"
fault_name_of AtomsDiffer = codes "AtomsDiffer"
fault_name_of NotAbsurd = codes "NotAbsurd"
fault_name_of NoSuchCase = codes "NoSuchCase"
fault_name_of TooManyAtoms = codes "TooManyAtoms"
fault_name_of NoFreshVariable = codes "NoFreshVariable"
fault_name_of PremiseCount = codes "PremiseCount"
fault_name_of (PremiseDiffers i) = codes "PremiseDiffers"
fault_name_of NoSuchNode = codes "NoSuchNode"
fault_name_of NotVariable = codes "NotVariable"
fault_name_of TooManyTerms = codes "TooManyTerms"
fault_name_of (LinkLeft k) = codes "LinkLeft"
fault_name_of (LinkRight k) = codes "LinkRight"
fault_name_of TermCount = codes "TermCount"

-- the number that a fault carries
abbrev pub fault_number_of : FoFault → Option ℕ
fault_number_of (PremiseDiffers i) = Some i
fault_number_of (LinkLeft k) = Some k
fault_number_of (LinkRight k) = Some k
fault_number_of _ = None
