use Rattle.heap_reader.specs.Trees.{heap_of}
use Rattle.heap_reader.specs.Spans.{heap_span}
use Rattle.heap_reader.specs.Flaws.{counted_flaw}
use Rattle.heap_reader.proofs.Loops.{passed_of, fits_of}
use Rattle.heap_reader.proofs.heap_walk.walk_heaps.Goals as goal

pub loop-n-preserved : goal.loop-n-preserved
loop-n-preserved g c =
    passed_of heap_of (counted_flaw (g.F.TermReader.flaw c.args.form.now)
    g.F.TermReader.span c.args.most c.args.heads.now c.args.what) (heap_span g.F.TermReader.span)
    c.loop-n.n c.loop-n.next c.in_ok-next.next c.args.trees.now c.index-trees-n.result _ _ c.loop-n-test.true
    c.index-trees-n.is c.in_ok-next.ensures c.loop-n.invariant

pub counted_heap-requires : goal.counted_heap-requires
counted_heap-requires g c =
    fits_of heap_of (heap_span g.F.TermReader.span)
    c.loop-n.n c.loop-n.next _ c.args.trees.now c.index-trees-n.result _ c.loop-n-test.true c.index-trees-n.is
    c.loop-n.invariant.1 c.requires
