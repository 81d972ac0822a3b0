use Rattle.std.proofs.Common.{◌≡◌, ◌+◌, drop, map}
use Rattle.heap_reader.specs.Trees.{end_of}
use Rattle.heap_reader.specs.Spans.{total}
use Rattle.heap_reader.specs.EndSpans.{end_span}
use Rattle.heap_reader.specs.EndFlaws.{stops_at, ends_flaw}
use Rattle.heap_reader.proofs.ends.end_walk.walk_ends.Given as goal

abbrev pub invariant-loop-tree : goal.invariant-loop-tree
invariant-loop-tree g l =
    (ends_flaw (g.F.TermReader.flaw l.form) g.F.TermReader.span l.most l.heads (stops_at l.lines) l.before l.next
    (map end_of (drop l.tree-index l.trees))
    ≡ ends_flaw (g.F.TermReader.flaw l.form) g.F.TermReader.span l.most l.heads (stops_at l.lines) 0 l.fn.at
    (map end_of l.trees))
    × (l.next + total (end_span g.F.TermReader.span) (map end_of (drop l.tree-index l.trees))
    ≡ l.fn.at + total (end_span g.F.TermReader.span) (map end_of l.trees))
