use Rattle.std.proofs.Common.{◌≡◌, ◌+◌, drop, map}
use Rattle.heap_formula.specs.Words.{Each}
use Rattle.heap_reader.specs.Spans.{total}
use Rattle.heap_reader.specs.Flaws.{listed_flaw}
use Rattle.fo_syntax.specs.ProofTrees.{node_of}
use Rattle.fo_file.specs.Parts.{IsNode}
use Rattle.fo_file.specs.Spans.{node_span}
use Rattle.fo_file.specs.Flaws.{node_flaw, nodes_flaw}
use Rattle.fo_file.proofs.walk.node_walk.walk_nodes.Given as goal

abbrev pub invariant-loop-n : goal.invariant-loop-n
invariant-loop-n l =
    (listed_flaw (node_flaw l.names.constructors l.names.predicates) node_span l.n l.next
    (map node_of (drop l.n l.trees)) ≡ nodes_flaw l.names.constructors l.names.predicates l.fn.at
    (map node_of l.trees))
    × ((l.next + total node_span (map node_of (drop l.n l.trees)) ≡ l.fn.at + total node_span (map node_of l.trees))
    × Each IsNode (map node_of (drop l.n l.trees)))
