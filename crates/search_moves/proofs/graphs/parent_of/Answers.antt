use Rattle.std.proofs.Common.{true, false, sym, ◌∙◌, arith}
use Rattle.search_moves.proofs.LowerNodes.{above}
use Rattle.search_moves.proofs.graphs.parent_of.Goals as goal

pub returns-then-fills : goal.returns-then-fills
returns-then-fills c =
    sym (above c.args.graph.now c.loop-n.n c.args.v c.node.result true c.loop-n-test.true c.node.ensures
    (sym c.fills.ensures ∙ c.if-fills.true)) ∙ c.loop-n.invariant.0

pub loop-n-preserved : goal.loop-n-preserved
loop-n-preserved c = (
  sym (above c.args.graph.now c.loop-n.n c.args.v c.node.result false c.loop-n-test.true c.node.ensures
      (sym c.fills.ensures ∙ c.if-fills.false)) ∙ c.loop-n.invariant.0,
  omega (arith, c.loop-n.invariant.1),
)
