use Rattle.solve_top.proofs.FrameLaws.{answer_known}
use Rattle.solve_top.proofs.possibilities.possibility_of_problem.Goals as goal

pub returns : goal.returns
returns c = answer_known c.args.text.now c.args._problem.now c.possibility_of.result c.requires c.possibility_of.ensures
