use Rattle.std.proofs.Common.{take}
use Rattle.general_models.specs.RangedGrounding.{GroundedOver}
use Rattle.general_models.proofs.grounding.ground_cases.Given as goal

abbrev pub invariant-loop-case : goal.invariant-loop-case
invariant-loop-case l = GroundedOver l.range l.cells l.places.keys l.initial.questions.keys l.questions.keys
    l.initial.rules.items l.rules.items l.head l.values (take l.case-index l.cases)
