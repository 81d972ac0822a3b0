use Rattle.std.proofs.Common.{◌≡◌, ◌<◌, ℕ, Some, slice_get}
use Rattle.heap_formula.specs.declared.terms.Term.{Term}
use Rattle.refute_unfoldings.specs.Consistency.{JoinsClasses}
use Rattle.refute_unfoldings.proofs.unfolding.Unfolding.are_apart.Given as goal

abbrev pub invariant-loop-pair : goal.invariant-loop-pair
invariant-loop-pair l = (i : ℕ) (pair : Term × Term) → i < l.pair-index → slice_get l.self.apart i ≡ Some pair
    → JoinsClasses l.self.classes l.t l.u pair → ⊥
