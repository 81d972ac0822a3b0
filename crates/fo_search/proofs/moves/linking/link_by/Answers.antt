use Rattle.std.proofs.Common.{◌≡◌, ◌∙◌}
use Rattle.std.specs.List.{zip}
use Rattle.fo_search.specs.Links.{least_places}
use Rattle.fo_search.proofs.moves.linking.link_by.Goals as goal

pub returns : goal.returns
returns c =
    let bud = c.args.goal.now.bud.now in
    let companion = c.args.goal.now.companion.now in
    let s = zip c.args.goal.now.sources.now c.args.terms.now in
    let left : c.in_ok-left_map.left_map ≡ least_places bud.left s companion.left = c.in_ok-left_map.ensures
    ∙ (λ i. least_places (c.as_slice.ensures i) (c.in_ok-paired.ensures i) (c.as_slice-left.ensures i)) in
    let right : c.in_ok-right_map.right_map ≡ least_places bud.right s companion.right = c.in_ok-right_map.ensures
    ∙ (λ i. least_places (c.as_slice-2.ensures i) (c.in_ok-paired.ensures i) (c.as_slice-right.ensures i)) in
    λ i. record {
      to = c.args.goal.now.number;
      substitution = c.in_ok-substitution.ensures i;
      left_map = left i;
      right_map = right i;
    }
