use Rattle.std.proofs.Common.{◌≡◌, max, drop}
use Rattle.heap_formula.specs.Words.{max_of}
use Rattle.counter_model.proofs.tight_stacks.greatest_entry.Given as goal

abbrev pub invariant-loop-value : goal.invariant-loop-value
invariant-loop-value l = max l.most (max_of (drop l.value-index l.stack)) ≡ max_of l.stack
