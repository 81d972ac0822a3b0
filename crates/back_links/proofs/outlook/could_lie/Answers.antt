use Rattle.std.proofs.Common.{sym, ◌∙◌, length}
use Rattle.back_links.specs.Outlook.{could_lie_at}
use Rattle.back_links.proofs.Selecting.{any_next}
use Rattle.back_links.proofs.outlook.could_lie.Goals as goal

pub loop-m-preserved : goal.loop-m-preserved
loop-m-preserved c =
    any_next (could_lie_at c.args.pures.now c.args.atoms.now c.args.pairs.now c.args.places.now c.args.x.now) c.loop-m.m
    (length c.args.atoms.now) _ c.loop-m-test.true (sym c.could_lie_at.ensures ∙ c.if-could_lie_at.false)
    c.loop-m.invariant
