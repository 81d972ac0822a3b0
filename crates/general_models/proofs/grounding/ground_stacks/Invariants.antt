use Rattle.std.proofs.Common.{take}
use Rattle.general_models.specs.RangedGrounding.{GroundedStacks}
use Rattle.general_models.proofs.grounding.ground_stacks.Given as goal

abbrev pub invariant-loop-stack : goal.invariant-loop-stack
invariant-loop-stack l = GroundedStacks l.cells l.places.keys l.initial.questions.keys l.questions.keys
    l.initial.rules.items l.rules.items l.head l.case (take l.stack-index l.stacks)
