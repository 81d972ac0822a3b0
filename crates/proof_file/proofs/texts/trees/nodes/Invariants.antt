use Rattle.std.proofs.Common.{◌≡◌, take, map}
use Rattle.proof_syntax.specs.Trees.{node_of}
use Rattle.proof_file.specs.Written.{node_tree}
use Rattle.proof_file.proofs.texts.trees.nodes.Given as goal

abbrev pub invariant-loop-value : goal.invariant-loop-value
invariant-loop-value l = map node_of l.trees.items ≡ map (node_tree l.defs) (take l.value-index l.values)
