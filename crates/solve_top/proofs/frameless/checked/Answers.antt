use Rattle.solve_top.proofs.FrameLaws.{frameless_file}
use Rattle.solve_top.proofs.frameless.checked.Goals as goal

pub returns : goal.returns
returns c = frameless_file c.args.problem.now c.args.antecedent.now c.args.wanted.now c.args.disjuncts.now c.args.stack
    c.args.heap c.requires.goal c.requires.asked (c.in_ok-is_frameless.ensures c.if-not-branch.false)
    c.model_for.result c.model_for.ensures
