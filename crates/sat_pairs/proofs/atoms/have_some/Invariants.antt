use Rattle.std.proofs.Common.{◌↔◌, drop}
use Rattle.sat_pairs.specs.Atoms.{HasSome}
use Rattle.sat_pairs.proofs.atoms.have_some.Given as goal

abbrev pub invariant-loop-atom : goal.invariant-loop-atom
invariant-loop-atom l = HasSome l.table l.cell (drop l.atom-index l.atoms) ↔ HasSome l.table l.cell l.atoms
