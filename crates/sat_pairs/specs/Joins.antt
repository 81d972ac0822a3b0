-- Atoms in the order of a join.
use Rattle.std.specs.Prelude.{◌≡◌, ℕ, List, ◌++◌, length}
use Rattle.heap_formula.specs.declared.atoms.Spatial.{Spatial}
use Rattle.pair_family.specs.JoinOrder.{Cost, order_after}
use Rattle.pair_family.specs.Reordering.{Reorders}
use Rattle.sat_pairs.specs.declared.orders.Cost as declared

abbrev pub pair_of_cost : declared.Cost → Cost
pair_of_cost c = (c.new, c.needed)

-- the atoms that were taken, and then all that were left, in the order of a join
pub record IsJoined (k : ℕ) (taken left out : List Spatial) : Type 0 where
  pub rest : List Spatial
  pub atoms : out ≡ taken ++ rest
  pub all : Reorders rest left
  pub order : rest ≡ order_after (length left) k taken left
