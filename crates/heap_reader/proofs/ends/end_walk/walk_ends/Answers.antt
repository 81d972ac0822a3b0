use Rattle.std.proofs.Common.{ap, drop, map}
use Rattle.cyc_grammar.proofs.WrittenTexts.{left-item}
use Rattle.heap_reader.specs.Trees.{end_of}
use Rattle.heap_reader.specs.EndSpans.{end_span}
use Rattle.heap_reader.specs.EndFlaws.{stops_at}
use Rattle.heap_reader.proofs.Loops.{fits_of}
use Rattle.heap_reader.proofs.EndLoops.{passed_end}
use Rattle.heap_reader.proofs.ends.end_walk.walk_ends.Goals as goal

pub loop-tree-preserved : goal.loop-tree-preserved
loop-tree-preserved g c =
    passed_end (g.F.TermReader.flaw c.args.form.now) g.F.TermReader.span c.args.most c.args.heads.now
    (stops_at c.args.lines.now) c.loop-tree.before c.loop-tree.next c.in_ok-next.next (end_of c.tree-item.result)
    (map end_of (drop c.loop-tree.tree-index c.args.trees.now)) _ _ _
    (ap (map end_of) (left-item c.args.trees.now c.loop-tree.tree-index c.tree-item.result c.loop-tree-test.true
    c.tree-item.is)) c.in_ok-next.ensures c.loop-tree.invariant

pub end-requires : goal.end-requires
end-requires g c =
    fits_of end_of (end_span g.F.TermReader.span)
    c.loop-tree.tree-index c.loop-tree.next _ c.args.trees.now c.tree-item.result _ c.loop-tree-test.true
    c.tree-item.is c.loop-tree.invariant.1 c.requires
