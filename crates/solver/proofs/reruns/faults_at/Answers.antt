use Rattle.std.proofs.lemmas.Result.{IfOk-weaker}
use Rattle.general_models.proofs.SomeOf.{not_held, held}
use Rattle.solver.proofs.reruns.faults_at.Goals as goal

pub returns-then-not-faults : goal.returns-then-not-faults
returns-then-not-faults c = not_held c.in_ok-faults.faults c.if-not-faults.true c.in_ok-faults.ensures.exact

pub returns : goal.returns
returns c = IfOk-weaker c.is_at.result _ _
    (λ yes at. held c.in_ok-faults.faults yes c.if-not-faults.false c.in_ok-faults.ensures.exact at) c.is_at.ensures
