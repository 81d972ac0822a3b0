use Rattle.std.proofs.Common.{map, ap, arith}
use Rattle.fo_syntax.specs.Trees.{atom_of}
use Rattle.fo_syntax.specs.ProblemTrees.{sequent_of}
use Rattle.fo_file.specs.AtomSpans.{total_terms}
use Rattle.fo_file.proofs.Counts.{atoms_fewer, sequent_fewer}
use Rattle.fo_file.proofs.walk.node_walk.walk_sequent.Goals as goal

pub walk_side-requires-clause-terms : goal.walk_side-requires-clause-terms
walk_side-requires-clause-terms c =
    rw c.deref.ensures.value (omega (
      arith,
      c.requires.fits,
      atoms_fewer (map atom_of c.args.tree.now.left.items) c.requires.is.0,
    ))

pub walk_side-requires-2-clause-terms : goal.walk_side-requires-2-clause-terms
walk_side-requires-2-clause-terms c =
    rw c.deref-2.ensures.value (omega (
      arith,
      c.requires.fits,
      sequent_fewer (sequent_of c.args.tree.now) c.requires.is,
      c.in_ok-middle.ensures.1.1,
      ap (λ trees. total_terms (map atom_of trees)) c.deref.ensures.value,
    ))
