-- A formula's atoms after others.
use Rattle.std.specs.Prelude.{List, ◌++◌}
use Rattle.heap_formula.specs.declared.atoms.Pure.{Pure}
use Rattle.heap_formula.specs.declared.atoms.Spatial.{Spatial}
use Rattle.heap_formula.specs.Symbolic.{SymbolicHeap}

-- the formula's pure atoms after ps, and its spatial ones after xs
abbrev pub joined : List Pure → List Spatial → SymbolicHeap → SymbolicHeap
joined ps xs body = record { pure = ps ++ body.pure; spatial = xs ++ body.spatial }
