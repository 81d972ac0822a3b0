use Rattle.std.proofs.Common.{◌+◌, ◌⊎◌, ℕ, List, drop}
use Rattle.heap_formula.specs.Words.{Each, OneOf}
use Rattle.cyc_basics.specs.Words.{IsMember}
use Rattle.counter_model.specs.Tightness.{IsStack, IsStep}
use Rattle.counter_model.proofs.tight_stacks.all_steps.Given as goal

abbrev pub invariant-loop-stack : goal.invariant-loop-stack
invariant-loop-stack l = record {
  complete : (e : List ℕ) → OneOf (λ s. IsStep l.greatest s e) l.shorter
      → IsMember e l.out.items ⊎ OneOf (λ s. IsStep l.greatest s e) (drop l.stack-index l.shorter);
  sound : Each (IsStack l.greatest (l.count + 1)) l.out.items;
}
