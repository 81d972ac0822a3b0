-- The two kinds of spatial atoms.
use Rattle.std.specs.Prelude.{Bool, true, false}
use Rattle.heap_formula.specs.declared.atoms.Spatial.{Spatial}
use Rattle.heap_formula.specs.declared.atoms.Spatial.TheVariants.{Cell, Pred}

abbrev pub is_cell : Spatial → Bool
is_cell (Cell t ts) = true
is_cell (Pred q ts) = false

abbrev pub is_predicate : Spatial → Bool
is_predicate (Cell t ts) = false
is_predicate (Pred q ts) = true
