use Rattle.fo_formula.proofs.Equal.{atom_eq-Decides}
use Rattle.fo_formula.proofs.atoms.is_same_atom.Goals as goal

pub returns : goal.returns
returns c = rw c.eq.ensures (atom_eq-Decides c.args.a.now c.args.b.now)
