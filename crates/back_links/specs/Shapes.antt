-- The shapes of spatial atoms, which no substitution changes.
use Rattle.std.specs.Prelude.{List, length, Bool, false, ◌&&◌, nat_eq, nat_le, count_by}
use Rattle.std.specs.List.{list_any, list_all}
use Rattle.heap_formula.specs.declared.atoms.Spatial.{Spatial}
use Rattle.heap_formula.specs.declared.atoms.Spatial.TheVariants.{Cell, Pred}
use Rattle.heap_formula.specs.Symbolic.{SymbolicHeap}

-- two cells, or two atoms of one predicate, with equally many terms
abbrev pub same_shape : Spatial → Spatial → Bool
same_shape (Cell t ts) (Cell u us) = nat_eq (length ts) (length us)
same_shape (Pred p ts) (Pred q us) = nat_eq p q && nat_eq (length ts) (length us)
same_shape (Cell t ts) (Pred q us) = false
same_shape (Pred p ts) (Cell u us) = false

-- the first list has as many atoms of this one's shape as the second, or more
unfoldable pub has_as_many : List Spatial → List Spatial → Spatial → Bool
has_as_many atoms xs x = nat_le (count_by (same_shape x) xs) (count_by (same_shape x) atoms)

-- so for each shape
abbrev pub has_shapes : List Spatial → List Spatial → Bool
has_shapes atoms xs = list_all (has_as_many atoms xs) xs

-- of each shape both lists have equally many
abbrev pub same_shapes : List Spatial → List Spatial → Bool
same_shapes atoms xs = nat_eq (length atoms) (length xs) && has_shapes atoms xs

-- some heap has atoms of the same shapes
abbrev pub some_has_shapes : List SymbolicHeap → SymbolicHeap → Bool
some_has_shapes bs c = list_any (λ b. same_shapes b.spatial c.spatial) bs
