use Rattle.std.proofs.Common.{arith}
use Rattle.std.proofs.lemmas.Result.{IfOk-weaker}
use Rattle.goto_lang.specs.States.{state_of}
use Rattle.general_models.proofs.RunEnds.{repeat_exact}
use Rattle.general_models.proofs.runs.refuting.comes_back.Goals as goal

pub returns : goal.returns
returns c =
    IfOk-weaker c.same_states.result _ _ (λ b i. repeat_exact c.args.program.now c.args.w c.args.picks.now
    (state_of c.args.start.now) c.args.first c.args.again c.in-Some.one c.in-Some-2.other b (omega arith)
    (rw c.in-Some.is at c.in_ok-one.ensures) (rw c.in-Some-2.is at c.in_ok-other.ensures) i) c.same_states.ensures
