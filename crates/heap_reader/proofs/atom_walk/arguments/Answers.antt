use Rattle.heap_reader.specs.Flaws.{argument_flaw}
use Rattle.heap_reader.proofs.Loops.{passed, fits}
use Rattle.heap_reader.proofs.atom_walk.arguments.Goals as goal

pub loop-n-preserved : goal.loop-n-preserved
loop-n-preserved g c =
    passed (argument_flaw (g.F.TermReader.flaw c.args.form.now) g.F.TermReader.span c.args.most)
    g.F.TermReader.span c.loop-n.n c.loop-n.next c.in_ok-next.next c.args.terms.now c.index-terms-n.result _ _
    c.loop-n-test.true c.index-terms-n.is c.in_ok-next.ensures c.loop-n.invariant

pub argument-requires : goal.argument-requires
argument-requires g c =
    fits g.F.TermReader.span c.loop-n.n c.loop-n.next _ c.args.terms.now c.index-terms-n.result _ c.loop-n-test.true
    c.index-terms-n.is c.loop-n.invariant.1 c.requires
