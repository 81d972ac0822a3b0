use Rattle.std.proofs.Common.{map, arith}
use Rattle.fo_syntax.specs.Trees.{atom_of}
use Rattle.fo_file.proofs.Counts.{atoms_fewer}
use Rattle.fo_file.proofs.walk.theory_walk.walk_case.Goals as goal

pub walk_atoms-requires-clause-terms : goal.walk_atoms-requires-clause-terms
walk_atoms-requires-clause-terms c =
    omega (arith, c.requires.fits, atoms_fewer (map atom_of c.args.trees.now) c.requires.are)
