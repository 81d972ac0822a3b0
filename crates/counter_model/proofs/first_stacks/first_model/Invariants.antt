use Rattle.std.proofs.Common.{◌⊎◌, drop, List, ℕ}
use Rattle.heap_formula.specs.Cells.{Cells}
use Rattle.cyc_basics.specs.Words.{IsMember}
use Rattle.counter_model.specs.Bounds.{IsWithin}
use Rattle.counter_model.specs.FirstCounter.{IsCounter}
use Rattle.counter_model.specs.Leaders.{IsPairFor, IsStackLed}
use Rattle.counter_model.proofs.first_stacks.first_model.Given as goal

abbrev pub invariant-loop-stack : goal.invariant-loop-stack
invariant-loop-stack l = record {
  pair : IsPairFor l.greatest l.count l.defs.list l.antecedent l.disjuncts l.leader;
  first : (t : List ℕ) (g : Cells) → IsWithin l.greatest g → IsCounter l.defs.list l.antecedent l.disjuncts t g
      → IsMember t l.stack-items → IsStackLed l.leader t ⊎ IsMember t (drop l.stack-index l.stack-items);
}
