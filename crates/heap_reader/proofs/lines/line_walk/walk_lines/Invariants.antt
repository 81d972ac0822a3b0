use Rattle.std.proofs.Common.{◌≡◌, ◌+◌, length, drop}
use Rattle.heap_reader.specs.Spans.{total}
use Rattle.heap_reader.specs.LineSpans.{line_span}
use Rattle.heap_reader.specs.Flaws.{listed_flaw}
use Rattle.heap_reader.specs.LineFlaws.{line_flaw}
use Rattle.heap_reader.proofs.lines.line_walk.walk_lines.Given as goal

abbrev pub invariant-loop-n : goal.invariant-loop-n
invariant-loop-n g l =
    (listed_flaw (line_flaw (g.F.VariableReader.flaw l.form) g.F.VariableReader.span l.most (length l.lines))
    (line_span g.F.VariableReader.span) l.n l.next (drop l.n l.lines)
    ≡ listed_flaw (line_flaw (g.F.VariableReader.flaw l.form) g.F.VariableReader.span l.most (length l.lines))
    (line_span g.F.VariableReader.span) 0 l.fn.at l.lines)
    × (l.next + total (line_span g.F.VariableReader.span) (drop l.n l.lines)
    ≡ l.fn.at + total (line_span g.F.VariableReader.span) l.lines)
