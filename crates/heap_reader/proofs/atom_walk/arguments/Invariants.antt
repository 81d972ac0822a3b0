use Rattle.std.proofs.Common.{◌≡◌, ◌+◌, drop}
use Rattle.heap_reader.specs.Spans.{total}
use Rattle.heap_reader.specs.Flaws.{listed_flaw, argument_flaw}
use Rattle.heap_reader.proofs.atom_walk.arguments.Given as goal

abbrev pub invariant-loop-n : goal.invariant-loop-n
invariant-loop-n g l =
    (listed_flaw (argument_flaw (g.F.TermReader.flaw l.form) g.F.TermReader.span l.most) g.F.TermReader.span l.n l.next
    (drop l.n l.terms) ≡ listed_flaw (argument_flaw (g.F.TermReader.flaw l.form) g.F.TermReader.span l.most)
    g.F.TermReader.span 0 l.fn.at l.terms) × (l.next + total g.F.TermReader.span (drop l.n l.terms)
    ≡ l.fn.at + total g.F.TermReader.span l.terms)
