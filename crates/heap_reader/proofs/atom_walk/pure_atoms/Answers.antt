use Rattle.heap_reader.specs.Spans.{pure_span}
use Rattle.heap_reader.specs.Flaws.{pure_flaw}
use Rattle.heap_reader.proofs.Loops.{passed, fits}
use Rattle.heap_reader.proofs.atom_walk.pure_atoms.Goals as goal

pub loop-n-preserved : goal.loop-n-preserved
loop-n-preserved g c =
    passed (pure_flaw (g.F.TermReader.flaw c.args.form.now) g.F.TermReader.span c.args.most)
    (pure_span g.F.TermReader.span)
    c.loop-n.n c.loop-n.next c.in_ok-next.next c.args.trees.now c.index-trees-n.result _ _ c.loop-n-test.true
    c.index-trees-n.is c.in_ok-next.ensures c.loop-n.invariant

pub pure_atom-requires : goal.pure_atom-requires
pure_atom-requires g c =
    fits (pure_span g.F.TermReader.span)
    c.loop-n.n c.loop-n.next _ c.args.trees.now c.index-trees-n.result _ c.loop-n-test.true c.index-trees-n.is
    c.loop-n.invariant.1 c.requires
