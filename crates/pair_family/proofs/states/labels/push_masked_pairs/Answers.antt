use Rattle.std.proofs.Common.{◌≡◌, ◌++◌, ◌∙◌, arith, ap, sym}
use Rattle.pair_family.specs.Labels.{label_pairs}
use Rattle.pair_family.proofs.MaskBits.{none_left, append_none}
use Rattle.pair_family.proofs.states.labels.push_masked_pairs.Goals as goal

pub returns : goal.returns
returns c =
    let e : c.loop-rest.rest ≡ 0 = omega (arith, c.loop-rest-test.false) in
    sym (ap (λ z. c.loop-rest.out.items ++ label_pairs c.args.labels.now z) (none_left c.loop-rest.rest e)
    ∙ append_none c.loop-rest.out.items) ∙ c.loop-rest.invariant.pushed
