use Rattle.std.proofs.Common.{◌≡◌, ◌<◌, ◌≤◌, ℕ}
use Rattle.heap_formula.specs.Cells.{cell_at}
use Rattle.counter_model.proofs.heaps.small_heaps.with_cells.Given as goal
use Rattle.std.specs.Option.{option_or}

abbrev pub invariant-loop-address : goal.invariant-loop-address
invariant-loop-address l = record {
  below : (a : ℕ) → a < l.address → cell_at l.whole a ≡ option_or (cell_at l.rest a) (cell_at l.part a);
  above : (a : ℕ) → l.address ≤ a → cell_at l.whole a ≡ cell_at l.part a;
}
