use Rattle.std.proofs.Common.{◌≡◌, ◌∙◌, arith, ap, sym}
use Rattle.pair_family.specs.Labels.{joined_labels, pairs_at}
use Rattle.pair_family.proofs.MaskBits.{none_left}
use Rattle.pair_family.proofs.states.labels.join_masked_places.Goals as goal

pub returns : goal.returns
returns c =
    let e : c.loop-rest.rest ≡ 0 = omega (arith, c.loop-rest-test.false) in
    sym (ap (λ z. joined_labels c.loop-rest.labels.items (pairs_at c.args.places.now z)) (none_left c.loop-rest.rest e))
    ∙ c.loop-rest.invariant.joined
