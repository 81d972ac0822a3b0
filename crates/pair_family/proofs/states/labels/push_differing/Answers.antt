use Rattle.std.proofs.Common.{◌∙◌}
use Rattle.pair_family.proofs.Rows.{difference_row}
use Rattle.pair_family.proofs.states.labels.push_differing.Goals as goal

pub loop-i-preserved : goal.loop-i-preserved
loop-i-preserved c =
    difference_row c.args.labels.now c.args.differences.now c.args.j c.loop-i.i c.has_label.result c.deref.result.now
    c.args.pairs.now.items c.loop-i.pairs.items c.push_if.new.pairs.items c.loop-i.invariant c.has_label.ensures
    (c.deref.ensures.value ∙ c.in_ok-fill_neighbours.ensures) c.in_ok-push_if.ensures
