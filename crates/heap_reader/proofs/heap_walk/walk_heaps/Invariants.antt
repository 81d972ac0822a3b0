use Rattle.std.proofs.Common.{◌≡◌, ◌+◌, drop, map}
use Rattle.heap_reader.specs.Trees.{heap_of}
use Rattle.heap_reader.specs.Spans.{total, heap_span}
use Rattle.heap_reader.specs.Flaws.{listed_flaw, counted_flaw}
use Rattle.heap_reader.proofs.heap_walk.walk_heaps.Given as goal

abbrev pub invariant-loop-n : goal.invariant-loop-n
invariant-loop-n g l =
    (listed_flaw (counted_flaw (g.F.TermReader.flaw l.form) g.F.TermReader.span l.most l.heads l.what)
    (heap_span g.F.TermReader.span) l.n l.next (map heap_of (drop l.n l.trees))
    ≡ listed_flaw (counted_flaw (g.F.TermReader.flaw l.form) g.F.TermReader.span l.most l.heads l.what)
    (heap_span g.F.TermReader.span) 0 l.fn.at (map heap_of l.trees))
    × (l.next + total (heap_span g.F.TermReader.span) (map heap_of (drop l.n l.trees))
    ≡ l.fn.at + total (heap_span g.F.TermReader.span) (map heap_of l.trees))
