use Rattle.std.proofs.Common.{◌≡◌}
use Rattle.std.specs.Prelude.{max}
use Rattle.heap_formula.specs.Words.{max_of}
use Rattle.heap_formula.specs.Programs.{cell_numbers}
use Rattle.goto_lang.proofs.cells.greatest_in.Given as goal

abbrev pub invariant-loop-address : goal.invariant-loop-address
invariant-loop-address l = max l.most (max_of (cell_numbers l.address-iterator)) ≡ max_of (cell_numbers l.cells.entries)
