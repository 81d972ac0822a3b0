use Rattle.std.proofs.Common.{◌≡◌, take, map}
use Rattle.fo_syntax.specs.ProofTrees.{node_of}
use Rattle.fo_file.specs.Written.{node_tree}
use Rattle.fo_file.proofs.values.node_trees.nodes.Given as goal

abbrev pub invariant-loop-value : goal.invariant-loop-value
invariant-loop-value l = map node_of l.trees.items ≡ map (node_tree l.theory) (take l.value-index l.values)
