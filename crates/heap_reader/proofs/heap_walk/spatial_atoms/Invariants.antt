use Rattle.std.proofs.Common.{◌≡◌, ◌+◌, drop, map}
use Rattle.heap_reader.specs.Trees.{spatial_of}
use Rattle.heap_reader.specs.Spans.{total, spatial_span}
use Rattle.heap_reader.specs.Flaws.{listed_flaw, spatial_flaw}
use Rattle.heap_reader.proofs.heap_walk.spatial_atoms.Given as goal

abbrev pub invariant-loop-n : goal.invariant-loop-n
invariant-loop-n g l =
    (listed_flaw (spatial_flaw (g.F.TermReader.flaw l.form) g.F.TermReader.span l.most l.heads)
    (spatial_span g.F.TermReader.span) l.n l.next (map spatial_of (drop l.n l.trees))
    ≡ listed_flaw (spatial_flaw (g.F.TermReader.flaw l.form) g.F.TermReader.span l.most l.heads)
    (spatial_span g.F.TermReader.span) 0 l.fn.at (map spatial_of l.trees))
    × (l.next + total (spatial_span g.F.TermReader.span) (map spatial_of (drop l.n l.trees))
    ≡ l.fn.at + total (spatial_span g.F.TermReader.span) (map spatial_of l.trees))
