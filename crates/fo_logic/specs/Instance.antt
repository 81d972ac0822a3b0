-- First-order logic over the theory of an instance.
use Rattle.heap_formula.specs.Meaning.{Stages}
use Rattle.fo_formula.specs.declared.nodes.FoReason.{FoReason}
use Rattle.fo_formula.specs.declared.sequents.FoSequent.{FoSequent}
use Rattle.fo_formula.specs.declared.table.faults.FoFault.{FoFault}
use Rattle.logics.specs.Logics.{LogicValue}
use Rattle.fo_logic.specs.declared.first_order.FirstOrder.{FirstOrder}
use Rattle.fo_logic.specs.FirstOrder.{first_order, MayOccur, IsGiven, Holds}

abbrev pub logic_in : FirstOrder → LogicValue FoSequent FoReason FoFault
logic_in l = first_order l.theory.now

abbrev pub occurs_in : FirstOrder → FoSequent → Type 0
occurs_in l = MayOccur l.theory.now

abbrev pub given_in : FirstOrder → FoSequent → FoReason → Type 0
given_in l = IsGiven l.theory.now

abbrev pub holds_in : FirstOrder → Stages → FoSequent → Type 0
holds_in l = Holds l.theory.now
