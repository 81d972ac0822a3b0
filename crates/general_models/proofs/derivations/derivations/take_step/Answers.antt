use Rattle.general_models.proofs.Deriving.{popped, case_opened}
use Rattle.std.specs.Prelude.{reverse}
use Rattle.general_models.proofs.derivations.derivations.take_step.Goals as goal

pub returns : goal.returns
returns c rest =
    case_opened c.args.defs.now.list c.args.step.now rest c.args.left.now c.in-Some.atom (reverse c.pop.new.self.items)
    (reverse c.args.pending.now.items)
    (popped c.args.pending.now.items c.pop.new.self.items c.in-Some.atom c.in-Some.ensures.items)
    c.predicate.result c.values.result.now c.as_slice-locals.result.now c.predicate.ensures c.values.ensures
    c.as_slice-locals.ensures c.in-Some-case_at.case.now c.in_ok-fits.fits (reverse c.open.new.pending.items)
    c.open.new.left c.in-Some-case_at.ensures c.in_ok-fits.ensures.opens c.in_ok-fits.ensures.pending
