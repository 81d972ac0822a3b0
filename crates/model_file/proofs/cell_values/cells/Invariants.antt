use Rattle.std.proofs.Common.{◌≡◌, ◌-◌, drop, length, map}
use Rattle.model_file.specs.Trees.{cell_of}
use Rattle.model_file.specs.Values.{cells_value}
use Rattle.model_file.proofs.cell_values.cells.Given as goal

abbrev pub invariant-loop-i : goal.invariant-loop-i
invariant-loop-i l = l.cells ≡ cells_value (map cell_of (drop (length l.trees - l.i) l.trees))
