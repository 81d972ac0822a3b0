use Rattle.std.proofs.Common.{take}
use Rattle.model_check.specs.Grounding.{GroundedCases}
use Rattle.model_check.proofs.grounding.ground_cases.Given as goal

abbrev pub invariant-loop-case : goal.invariant-loop-case
invariant-loop-case l = GroundedCases l.cells l.places.keys l.initial.questions.keys l.questions.keys
    l.initial.rules.items l.rules.items l.head l.values (take l.case-index l.cases)
