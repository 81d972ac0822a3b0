use Rattle.std.proofs.Common.{ℕ, List, take}
use Rattle.heap_formula.specs.Words.{Each}
use Rattle.cyc_basics.specs.Words.{IsMember}
use Rattle.counter_model.specs.Tightness.{Breaks, IsStack}
use Rattle.counter_model.proofs.tight_stacks.tight_stacks.Given as goal

abbrev pub invariant-loop-known : goal.invariant-loop-known
invariant-loop-known l = record {
  complete : (s : List ℕ) → IsStack l.greatest l.count s → (¬ Breaks 0 s) → IsMember (take l.known s) l.all.items;
  sound : Each (IsStack l.greatest l.known) l.all.items;
}
