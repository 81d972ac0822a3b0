use Rattle.std.proofs.Common.{◌≡◌, ◌<◌, ℕ}
use Rattle.heap_formula.specs.Cells.{cell_at}
use Rattle.counter_model.proofs.heaps.small_heaps.is_same.Given as goal

abbrev pub invariant-loop-address : goal.invariant-loop-address
invariant-loop-address l = (a : ℕ) → a < l.address → cell_at l.x a ≡ cell_at l.y a
