use Rattle.std.proofs.Common.{◌≡◌, drop, take, map}
use Rattle.heap_formula.specs.Words.{Each}
use Rattle.fo_syntax.specs.ProofTrees.{node_of}
use Rattle.fo_file.specs.Known.{IsKnownNode}
use Rattle.fo_file.specs.Values.{node_value}
use Rattle.fo_file.proofs.values.node_values.nodes.Given as goal

abbrev pub invariant-loop-tree : goal.invariant-loop-tree
invariant-loop-tree l =
    (l.nodes.items ≡ map (node_value l.constructors l.predicates) (map node_of (take l.tree-index l.trees)))
    × Each (IsKnownNode l.constructors l.predicates) (map node_of (drop l.tree-index l.trees))
