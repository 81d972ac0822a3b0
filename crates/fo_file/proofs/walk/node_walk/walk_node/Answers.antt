use Rattle.std.proofs.Common.{arith}
use Rattle.fo_syntax.specs.ProofTrees.{node_of}
use Rattle.fo_file.proofs.Counts.{node_fewer}
use Rattle.fo_file.proofs.walk.node_walk.walk_node.Goals as goal

pub walk_reason-requires-clause-terms : goal.walk_reason-requires-clause-terms
walk_reason-requires-clause-terms c =
    omega (arith, c.requires.fits, node_fewer (node_of c.args.tree.now) c.requires.is, c.in_ok-reached.ensures.1.1)
