use Rattle.std.proofs.Common.{◌<◌, length, sym, ◌∙◌, arith}
use Rattle.logics.proofs.PremiseLoops.{premise_step}
use Rattle.logics.proofs.node_tests.premises_fault.Goals as goal

pub loop-i-preserved : goal.loop-i-preserved
loop-i-preserved g c =
    let ps = c.args.premises.now in
    let us = c.args.numbers.now in
    let i = c.loop-i.i in
    let in_us : i < length us = omega (arith, c.requires.sizes, c.loop-i-test.true) in
    premise_step (g.L.Logic.logic c.args.logic.now)
    c.args.nodes.now c.args.v ps us i c.index-premises-i.result c.loop-i-test.true in_us (sym c.index-premises-i.is)
    (sym c.premise_fault.ensures ∙ c.in_default.is) ∙ c.loop-i.invariant
