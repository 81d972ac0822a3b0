use Rattle.std.proofs.Common.{sym, ◌∙◌, length}
use Rattle.back_links.specs.Outlook.{could_fill}
use Rattle.back_links.proofs.Selecting.{all_next}
use Rattle.back_links.proofs.outlook.could_fill_each.Goals as goal

pub loop-m-preserved : goal.loop-m-preserved
loop-m-preserved c =
    all_next (could_fill c.args.pures.now c.args.atoms.now c.args.pairs.now c.args.places.now c.args.xs.now) c.loop-m.m
    (length c.args.atoms.now) _ c.loop-m-test.true (sym c.could_fill.ensures ∙ c.if-not-could_fill.false)
    c.loop-m.invariant
