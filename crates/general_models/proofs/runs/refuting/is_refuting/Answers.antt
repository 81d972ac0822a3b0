use Rattle.std.proofs.Common.{subst, sym}
use Rattle.std.specs.Prelude.{◌↔◌, IsTrue, IfOk}
use Rattle.goto_lang.specs.States.{state_of}
use Rattle.general_models.specs.declared.runs.refuting.Ending.{Ending}
use Rattle.general_models.specs.Refuting.{IsRefuting}
use Rattle.general_models.proofs.runs.refuting.is_refuting.Goals as goal

pub returns-in-FaultAfter : goal.returns-in-FaultAfter
returns-in-FaultAfter c = record { exact = rw c.in-FaultAfter.is c.faults_after.ensures }

pub returns-in-Repeat : goal.returns-in-Repeat
returns-in-Repeat c = record { exact = rw c.in-Repeat.is c.comes_back.ensures }

pub returns-in-Grow : goal.returns-in-Grow
returns-in-Grow c = record {
  exact = subst (λ (e : Ending). IfOk c.comes_back_with_more.result (λ yes. IsTrue yes
      ↔ IsRefuting c.args.program.now c.args.w c.args.picks.now (state_of c.args.start.now) e)) (sym c.in-Grow.is)
      c.comes_back_with_more.ensures;
}
