use Rattle.general_models.proofs.Leaving.{next_taken}
use Rattle.general_models.proofs.derivations.taking.take_cells.Goals as goal

pub loop-atom-preserved : goal.loop-atom-preserved
loop-atom-preserved c =
    next_taken c.args.stack.now c.args.locals.now c.args.atoms.now c.args.left.now c.loop-atom.left
    c.loop-atom.atom-index c.loop-atom.invariant c.atom-item.result c.loop-atom-test.true c.atom-item.is
    c.in_ok-take_atom.field-0 c.take_atom.new.left c.in_ok-take_atom.ensures c.if-not-branch.false
