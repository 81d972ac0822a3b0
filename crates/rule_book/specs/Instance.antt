-- Separation logic over definitions and a program.
use Rattle.heap_formula.specs.declared.judgements.Judgement.{Judgement}
use Rattle.heap_formula.specs.declared.proof_rules.Reason.{Reason}
use Rattle.heap_formula.specs.declared.proof_rules.RuleFault.{RuleFault}
use Rattle.heap_formula.specs.Meaning.{Stages}
use Rattle.logics.specs.Logics.{LogicValue}
use Rattle.rule_book.specs.declared.reasons.separation_logic.SeparationLogic.{SeparationLogic}
use Rattle.rule_book.specs.SeparationLogic.{separation_logic, MayOccur, Holds}
use Rattle.rule_table.specs.Judgements.{IsReadable}

abbrev pub logic_in : SeparationLogic → LogicValue Judgement Reason RuleFault
logic_in l = separation_logic l.defs.now.most l.defs.now.list l.program.now

abbrev pub occurs_in : SeparationLogic → Judgement → Type 0
occurs_in l = MayOccur l.defs.now.list l.program.now

abbrev pub given_in : SeparationLogic → Judgement → Reason → Type 0
given_in l = IsReadable

abbrev pub holds_in : SeparationLogic → Stages → Judgement → Type 0
holds_in l = Holds l.defs.now.list l.program.now
