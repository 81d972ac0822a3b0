use Rattle.std.proofs.Common.{ℕ, ◌<◌}
use Rattle.std.specs.Prelude.{IsSome}
use Rattle.heap_formula.specs.Cells.{cell_at}
use Rattle.goto_lang.proofs.cells.Cells.least_free.Given as goal

abbrev pub invariant-loop-address : goal.invariant-loop-address
invariant-loop-address l = (b : ℕ) → 0 < b → b < l.address → IsSome (cell_at l.self b)
