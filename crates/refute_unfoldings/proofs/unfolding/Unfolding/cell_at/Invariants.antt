use Rattle.std.proofs.Common.{◌≡◌, ◌<◌, ℕ, Some, slice_get}
use Rattle.refute_unfoldings.specs.declared.unfolding.SymbolicCell.{SymbolicCell}
use Rattle.refute_unfoldings.specs.Consistency.{class_in}
use Rattle.refute_unfoldings.proofs.unfolding.Unfolding.cell_at.Given as goal

abbrev pub invariant-loop-place : goal.invariant-loop-place
invariant-loop-place l = (i : ℕ) (c : SymbolicCell) → i < l.place → slice_get l.self.cells i ≡ Some c
    → class_in l.self.classes c.address ≡ l.class → ⊥
