use Rattle.std.proofs.Common.{◌≡◌, map, take}
use Rattle.std.specs.FinMap.{entries}
use Rattle.model_file.specs.Trees.{cell_of}
use Rattle.model_file.specs.Grammar.{to_cell}
use Rattle.run_file.proofs.trees.cells.Given as goal

abbrev pub invariant-loop-address : goal.invariant-loop-address
invariant-loop-address l = map cell_of l.trees.items ≡ map to_cell (take l.address-index (entries l.heap))
