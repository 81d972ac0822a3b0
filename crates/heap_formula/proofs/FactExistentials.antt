-- The existential variables of a heap are below their number.
use Rattle.std.proofs.Common.{ℕ, ◌≤◌, arith}
use Rattle.heap_formula.specs.declared.atoms.Pure.{Pure}
use Rattle.heap_formula.specs.declared.atoms.Pure.TheVariants.{Eq, Neq}
use Rattle.heap_formula.specs.declared.atoms.Spatial.{Spatial}
use Rattle.heap_formula.specs.declared.atoms.Spatial.TheVariants.{Cell, Pred}
use Rattle.heap_formula.specs.Closedness.{InPure, InSpatial, InHeap}
use Rattle.heap_formula.specs.Fresh.{exist_bound, most_in_pure, most_in_spatial, heap_exists}
use Rattle.heap_formula.specs.Symbolic.{SymbolicHeap}
use Rattle.heap_formula.proofs.AllMembers.{each_imply}
use Rattle.heap_formula.proofs.Greatest.{each_below}

pure_bounded : (m : ℕ) (x : Pure) → most_in_pure exist_bound x ≤ m → InPure (λ t. exist_bound t ≤ m) x
pure_bounded m (Eq t u) h = (omega arith, omega arith)
pure_bounded m (Neq t u) h = (omega arith, omega arith)

spatial_bounded : (m : ℕ) (x : Spatial) → most_in_spatial exist_bound x ≤ m → InSpatial (λ t. exist_bound t ≤ m) x
spatial_bounded m (Cell t ts) h = (omega arith, each_below exist_bound m ts (omega arith))
spatial_bounded m (Pred p ts) h = each_below exist_bound m ts h

pub heap_bounded : (m : ℕ) (b : SymbolicHeap) → heap_exists b ≤ m → InHeap (λ t. exist_bound t ≤ m) b
heap_bounded m b h = (
  each_imply (λ x. most_in_pure exist_bound x ≤ m) (InPure (λ t. exist_bound t ≤ m)) (pure_bounded m) b.pure
      (each_below (most_in_pure exist_bound) m b.pure (omega arith)),
  each_imply (λ x. most_in_spatial exist_bound x ≤ m) (InSpatial (λ t. exist_bound t ≤ m)) (spatial_bounded m) b.spatial
      (each_below (most_in_spatial exist_bound) m b.spatial (omega arith)),
)
