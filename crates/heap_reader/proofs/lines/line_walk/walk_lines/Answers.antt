use Rattle.std.proofs.Common.{length}
use Rattle.heap_reader.specs.LineSpans.{line_span}
use Rattle.heap_reader.specs.LineFlaws.{line_flaw}
use Rattle.heap_reader.proofs.Loops.{passed, fits}
use Rattle.heap_reader.proofs.lines.line_walk.walk_lines.Goals as goal

pub loop-n-preserved : goal.loop-n-preserved
loop-n-preserved g c =
    passed (line_flaw (g.F.VariableReader.flaw c.args.form.now) g.F.VariableReader.span c.args.most
    (length c.args.lines.now))
    (line_span g.F.VariableReader.span)
    c.loop-n.n c.loop-n.next c.in_ok-next.next c.args.lines.now c.index-lines-n.result _ _ c.loop-n-test.true
    c.index-lines-n.is c.in_ok-next.ensures c.loop-n.invariant

pub line-requires : goal.line-requires
line-requires g c =
    record {
      there = c.loop-n-test.true;
      fits = fits (line_span g.F.VariableReader.span)
          c.loop-n.n c.loop-n.next _ c.args.lines.now c.index-lines-n.result _ c.loop-n-test.true c.index-lines-n.is
          c.loop-n.invariant.1 c.requires;
    }
