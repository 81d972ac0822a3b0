use Rattle.std.proofs.Common.{◌≡◌, ◌∙◌, arith, ap, sym}
use Rattle.pair_family.specs.Labels.{joined_labels}
use Rattle.pair_family.proofs.MaskBits.{none_left}
use Rattle.pair_family.proofs.states.labels.join_masked.Goals as goal

pub returns : goal.returns
returns c =
    let e : c.loop-rest.rest ≡ 0 = omega (arith, c.loop-rest-test.false) in
    sym (ap (joined_labels c.loop-rest.labels.items) (none_left c.loop-rest.rest e)) ∙ c.loop-rest.invariant.joined
