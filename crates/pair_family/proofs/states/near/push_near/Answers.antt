use Rattle.std.proofs.Common.{arith, get_or, ◌∙◌}
use Rattle.pair_family.proofs.Near.{near_row}
use Rattle.pair_family.proofs.states.near.push_near.Goals as goal

pub loop-i-preserved : goal.loop-i-preserved
loop-i-preserved c =
    let i = c.loop-i.i in
    let j = c.args.j in
    let labels = c.args.labels.now in
    let at_i = c.requires.small.below i (omega (arith, c.requires.there, c.loop-i-test.true)) in
    let at_j = c.requires.small.below j c.requires.there in
    near_row labels c.args.differences.now j i c.has_bit.result c.args.pairs.now.items c.loop-i.pairs.items
    c.push_if.new.pairs.items c.loop-i.invariant
    (c.has_bit.ensures ∙ c.requires.near.right (get_or labels j 0) (get_or labels i 0) at_j at_i)
    c.in_ok-push_if.ensures
