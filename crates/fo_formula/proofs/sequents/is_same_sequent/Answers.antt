use Rattle.fo_formula.proofs.Equal.{sequent_eq-Decides}
use Rattle.fo_formula.proofs.sequents.is_same_sequent.Goals as goal

pub returns : goal.returns
returns c = rw c.eq.ensures (sequent_eq-Decides c.args.a.now c.args.b.now)
