-- What the cells of a model file say.
use Rattle.std.specs.Prelude.{List, map}
use Rattle.std.specs.FinMap.{from_entries}
use Rattle.heap_formula.specs.Cells.{Cells}
use Rattle.model_file.specs.Trees.{Cell}
use Rattle.model_file.specs.Grammar.{from_cell}

-- the map of the cells
abbrev pub cells_value : List Cell → Cells
cells_value cs = from_entries (map from_cell cs)
