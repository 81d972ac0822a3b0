use Rattle.std.proofs.Common.{◌≤◌, length}
use Rattle.model_check.specs.Grounding.{Extends}
use Rattle.general_models.specs.RangedGrounding.{IsGroundedOver}
use Rattle.general_models.proofs.grounding.ground_all.Given as goal

abbrev pub invariant-loop-head : goal.invariant-loop-head
invariant-loop-head l = record {
  extends : Extends l.initial.questions.keys l.questions.keys;
  grounded : IsGroundedOver l.range l.defs.list l.cells l.places.keys l.questions.keys l.rules.items l.head;
  within : l.head ≤ length l.questions.keys;
}
