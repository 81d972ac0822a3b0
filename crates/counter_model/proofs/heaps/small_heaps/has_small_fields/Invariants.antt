use Rattle.std.proofs.Common.{◌≡◌, ◌<◌, ℕ, List, Some}
use Rattle.heap_formula.specs.Cells.{cell_at}
use Rattle.counter_model.specs.Bounds.{AreAtMost}
use Rattle.counter_model.proofs.heaps.small_heaps.has_small_fields.Given as goal

abbrev pub invariant-loop-address : goal.invariant-loop-address
invariant-loop-address l = (a : ℕ) (vs : List ℕ) → a < l.address → cell_at l.heap a ≡ Some vs → AreAtMost l.greatest vs
