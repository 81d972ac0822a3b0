use Rattle.std.proofs.Common.{◌≡◌, ◌<◌, drop, length, map}
use Rattle.pair_family.specs.JoinOrder.{cheapest, cost_of, first_least}
use Rattle.sat_pairs.specs.Joins.{pair_of_cost}
use Rattle.sat_pairs.proofs.orders.cheapest.Given as goal

abbrev pub invariant-loop-place : goal.invariant-loop-place
invariant-loop-place l = record {
  within : l.best < length l.left;
  rest : first_least (pair_of_cost l.least) l.best l.place
      (map (cost_of l.k l.taken l.left) (drop l.place l.left))
      ≡ cheapest l.k l.taken l.left;
}
