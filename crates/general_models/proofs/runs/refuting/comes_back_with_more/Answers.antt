use Rattle.std.proofs.Common.{arith}
use Rattle.goto_lang.specs.States.{state_of}
use Rattle.general_models.proofs.RunEnds.{growth_exact}
use Rattle.general_models.proofs.runs.refuting.comes_back_with_more.Goals as goal

pub returns : goal.returns
returns c =
    growth_exact c.args.program.now c.args.w c.args.picks.now (state_of c.args.start.now) c.args.growth.now
    c.in-Some.one c.in-Some-later.other c.are_alike.result (omega arith) (rw c.in-Some.is at c.in_ok-one.ensures)
    (rw c.in-Some-later.is at c.in_ok-later.ensures) (rw c.as_slice.ensures at c.are_alike.ensures)
