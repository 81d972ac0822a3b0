use Rattle.std.proofs.Common.{◌≡◌, ◌++◌, map, length}
use Rattle.proof_syntax.specs.Trees.{node_of}
use Rattle.proof_picture.specs.Carried.{flags_of}
use Rattle.proof_picture.specs.Labels.{AllFit, labels_of}
use Rattle.proof_picture.specs.Pieces.{pieces_of}
use Rattle.proof_picture.proofs.labels.labels_of_trees.Given as goal

-- The labels so far, and those of the nodes that are left.
abbrev pub invariant-loop-node : goal.invariant-loop-node
invariant-loop-node l =
    let rest = map node_of l.node-iterator.rest.items in
    (map pieces_of l.labels.items ++ labels_of (map flags_of l.flags.items) (length l.labels.items) rest
    ≡ labels_of (map flags_of l.flags.items) 0 (map node_of l.fn.nodes.items)) × AllFit rest
