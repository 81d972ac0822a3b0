use Rattle.fo_formula.specs.Tests.{same_atom}
use Rattle.fo_formula.proofs.Reflects.{decided, atom_is, atom_self}
use Rattle.fo_rules.proofs.parts.tests.is_one_atom.Goals as goal

pub returns : goal.returns
returns c =
    decided same_atom atom_is atom_self c.is_same_atom.result c.args.a.now c.args.b.now c.is_same_atom.ensures
