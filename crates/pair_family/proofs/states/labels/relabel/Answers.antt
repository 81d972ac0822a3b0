-- Each label in its turn.
use Rattle.std.proofs.Common.{arith, sym, ◌∙◌, map}
use Rattle.pair_family.specs.Labels.{relabelled}
use Rattle.pair_family.proofs.Relabelling.{change_next, all_changed}
use Rattle.pair_family.proofs.states.labels.relabel.Goals as goal

pub loop-label-preserved : goal.loop-label-preserved
loop-label-preserved c =
    change_next (relabelled c.args.old c.args.new) c.loop-label.label-index c.relabel_one.result c.loop-label.labels
    (map (relabelled c.args.old c.args.new) c.args.labels.now) c.loop-label.invariant c.relabel_one.ensures

pub returns : goal.returns
returns c =
    sym (all_changed (relabelled c.args.old c.args.new) c.loop-label.label-index c.loop-label.labels
    (omega (arith, c.loop-label-test.false, c.loop-label.auto.labels))) ∙ c.loop-label.invariant
