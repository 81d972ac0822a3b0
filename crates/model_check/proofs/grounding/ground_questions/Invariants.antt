use Rattle.std.proofs.Common.{◌≤◌, length}
use Rattle.model_check.specs.Grounding.{Extends, IsGrounded}
use Rattle.model_check.proofs.grounding.ground_questions.Given as goal

abbrev pub invariant-loop-head : goal.invariant-loop-head
invariant-loop-head l = record {
  extends : Extends l.initial.questions.keys l.questions.keys;
  grounded : IsGrounded l.defs.list l.cells l.places.keys l.questions.keys l.rules.items l.head;
  within : l.head ≤ length l.questions.keys;
}
