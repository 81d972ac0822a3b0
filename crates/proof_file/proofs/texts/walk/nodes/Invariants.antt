use Rattle.std.proofs.Common.{◌≡◌, ◌+◌, drop, map}
use Rattle.proof_syntax.specs.Trees.{node_of}
use Rattle.heap_reader.specs.Spans.{total}
use Rattle.heap_reader.specs.Flaws.{listed_flaw}
use Rattle.proof_file.specs.Spans.{node_span}
use Rattle.proof_file.specs.Flaws.{node_flaw}
use Rattle.proof_file.proofs.texts.walk.nodes.Given as goal

abbrev pub invariant-loop-n : goal.invariant-loop-n
invariant-loop-n l =
    (listed_flaw (node_flaw l.most l.heads l.count) node_span l.n l.next (map node_of (drop l.n l.trees))
    ≡ listed_flaw (node_flaw l.most l.heads l.count) node_span 0 l.fn.at (map node_of l.trees))
    × (l.next + total node_span (map node_of (drop l.n l.trees)) ≡ l.fn.at + total node_span (map node_of l.trees))
