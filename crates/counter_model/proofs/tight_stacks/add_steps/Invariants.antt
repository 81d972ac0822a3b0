use Rattle.std.proofs.Common.{◌≡◌, ◌<◌, ◌+◌, ◌⊎◌, ◌++◌, ◌∷◌, [], ℕ, List, length}
use Rattle.heap_formula.specs.Words.{Each}
use Rattle.cyc_basics.specs.Words.{IsMember}
use Rattle.counter_model.specs.Tightness.{IsStack}
use Rattle.counter_model.proofs.tight_stacks.add_steps.Given as goal

abbrev pub invariant-loop-value : goal.invariant-loop-value
invariant-loop-value l = record {
  complete : (e : List ℕ) → (IsMember e l.initial.out.items ⊎ ((v : ℕ) × (v < l.value) × (e ≡ l.stack ++ v ∷ [])))
      → IsMember e l.out.items;
  sound : Each (IsStack l.greatest (length l.stack + 1)) l.initial.out.items
      → Each (IsStack l.greatest (length l.stack + 1)) l.out.items;
}
