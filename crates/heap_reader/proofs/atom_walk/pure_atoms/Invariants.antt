use Rattle.std.proofs.Common.{◌≡◌, ◌+◌, drop}
use Rattle.heap_reader.specs.Spans.{total, pure_span}
use Rattle.heap_reader.specs.Flaws.{listed_flaw, pure_flaw}
use Rattle.heap_reader.proofs.atom_walk.pure_atoms.Given as goal

abbrev pub invariant-loop-n : goal.invariant-loop-n
invariant-loop-n g l =
    (listed_flaw (pure_flaw (g.F.TermReader.flaw l.form) g.F.TermReader.span l.most) (pure_span g.F.TermReader.span) l.n
    l.next
    (drop l.n l.trees) ≡ listed_flaw (pure_flaw (g.F.TermReader.flaw l.form) g.F.TermReader.span l.most)
    (pure_span g.F.TermReader.span) 0 l.fn.at l.trees) ×
    (l.next + total (pure_span g.F.TermReader.span) (drop l.n l.trees)
    ≡ l.fn.at + total (pure_span g.F.TermReader.span) l.trees)
