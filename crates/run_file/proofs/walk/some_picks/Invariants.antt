use Rattle.std.proofs.Common.{◌≡◌, ◌+◌, drop, map}
use Rattle.heap_reader.specs.Spans.{total}
use Rattle.heap_reader.specs.Flaws.{listed_flaw}
use Rattle.run_file.specs.Trees.{pick_of}
use Rattle.run_file.specs.Spans.{pick_span}
use Rattle.run_file.specs.Flaws.{pick_flaw, picks_flaw}
use Rattle.run_file.proofs.walk.some_picks.Given as goal

abbrev pub invariant-loop-tree : goal.invariant-loop-tree
invariant-loop-tree l =
    (listed_flaw (λ n. pick_flaw l.fn.most) pick_span l.tree-index l.next (map pick_of (drop l.tree-index l.trees))
    ≡ picks_flaw l.fn.most l.fn.at (map pick_of l.trees)) × (l.next + total pick_span
    (map pick_of (drop l.tree-index l.trees)) ≡ l.fn.at + total pick_span (map pick_of l.trees))
