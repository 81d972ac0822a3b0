use Rattle.std.proofs.Common.{◌∙◌, sym, ap, map}
use Rattle.pair_family.specs.JoinOrder.{cost_of, first_least}
use Rattle.sat_pairs.proofs.Joins.{cheapest_first}
use Rattle.sat_pairs.proofs.orders.cheapest.Goals as goal

pub loop-place-init : goal.loop-place-init
loop-place-init c =
    let left = c.args.left.now in
    let cost = cost_of c.args.k c.args.taken.now left in
    record {
      within = c.requires;
      rest = ap (λ z. first_least z 0 0 (map cost left)) c.cost_of-least.ensures
          ∙ cheapest_first c.args.k c.args.taken.now left c.index-left-0.result c.requires (sym c.index-left-0.is);
    }
