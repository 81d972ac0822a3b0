use Rattle.std.proofs.Common.{◌≡◌, rules}
use Rattle.std.specs.Cmp.Lexicographic.{pointwise}
use Rattle.fo_formula.specs.contracts.atoms.FoAtomPartialEq.TheImpl.{eq-value as atom_eq}
use Rattle.fo_formula.proofs.Equal.{atoms_eq-Decides}
use Rattle.fo_formula.proofs.atoms.FoAtomsPartialEq.eq.Goals as goal

pub returns-clause-exact : goal.returns-clause-exact
returns-clause-exact c =
    let v : c.eq.result ≡ pointwise atom_eq.it c.args.self.now c.args.other.now = search rules in
    rw v (atoms_eq-Decides c.args.self.now c.args.other.now)
