use Rattle.std.proofs.Common.{◌≡◌, ◌+◌, drop}
use Rattle.heap_reader.specs.Spans.{total}
use Rattle.heap_reader.specs.Flaws.{listed_flaw}
use Rattle.proof_file.specs.Spans.{pair_span}
use Rattle.proof_file.specs.Flaws.{pair_flaw}
use Rattle.proof_file.proofs.walk.pairs.Given as goal

abbrev pub invariant-loop-tree : goal.invariant-loop-tree
invariant-loop-tree l =
    (listed_flaw (λ n. pair_flaw) pair_span l.tree-index l.next (drop l.tree-index l.trees)
    ≡ listed_flaw (λ n. pair_flaw) pair_span 0 l.fn.at l.trees)
    × (l.next + total pair_span (drop l.tree-index l.trees) ≡ l.fn.at + total pair_span l.trees)
