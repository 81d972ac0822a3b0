use Rattle.std.proofs.Common.{◌≡◌, drop, take, map}
use Rattle.heap_formula.specs.Words.{Each}
use Rattle.proof_syntax.specs.Trees.{node_of}
use Rattle.proof_file.specs.Small.{IsSmallNode}
use Rattle.proof_file.specs.Values.{node_value}
use Rattle.proof_file.proofs.texts.values.nodes.Given as goal

abbrev pub invariant-loop-tree : goal.invariant-loop-tree
invariant-loop-tree l =
    (l.nodes.items ≡ map (node_value l.heads) (map node_of (take l.tree-index l.trees)))
    × Each IsSmallNode (map node_of (drop l.tree-index l.trees))
