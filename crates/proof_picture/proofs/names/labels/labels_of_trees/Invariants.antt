use Rattle.std.proofs.Common.{◌≡◌, ◌++◌, map, length}
use Rattle.proof_syntax.specs.Trees.{node_of}
use Rattle.proof_picture.specs.Carried.{flags_of}
use Rattle.proof_picture.specs.Labels.{AllFit}
use Rattle.proof_picture.specs.Pieces.{pieces_of}
use Rattle.proof_picture.specs.NamedLabels.{named_labels_from}
use Rattle.proof_picture.specs.Naming.{naming_of}
use Rattle.proof_picture.proofs.names.labels.labels_of_trees.Given as goal

-- The labels so far, and those of the nodes that are left.
abbrev pub invariant-loop-node : goal.invariant-loop-node
invariant-loop-node l =
    let rest = map node_of l.node-iterator.rest.items in
    let kept = map flags_of l.kept in
    let flags = map flags_of l.flags.items in
    (map pieces_of l.labels.items ++ named_labels_from (naming_of l.naming) kept flags (length l.labels.items) rest
    ≡ named_labels_from (naming_of l.naming) kept flags 0 (map node_of l.fn.nodes.items)) × AllFit rest
