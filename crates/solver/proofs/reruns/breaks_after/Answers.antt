use Rattle.std.proofs.Common.{◌≡◌, ℕ, Bool, false, subst}
use Rattle.std.specs.Prelude.{◌↔◌, IsTrue, IfOk}
use Rattle.std.proofs.lemmas.Result.{IfOk-weaker}
use Rattle.goto_lang.specs.States.{state_of}
use Rattle.solver.specs.Runs.{BreaksEnd, ComesTo}
use Rattle.solver.proofs.RunEnds.{ended_before, reached}
use Rattle.solver.proofs.reruns.breaks_after.Goals as goal

pub returns-in-Ends : goal.returns-in-Ends
returns-in-Ends c =
    subst (λ (n : ℕ). IsTrue false ↔ ComesTo c.args.program.now c.args.w c.args.picks.now (state_of c.args.start.now)
    n (BreaksEnd c.args.defs.now.list c.args.program.now)) c.from.ensures
    (ended_before c.args.program.now c.args.w c.args.picks.now (state_of c.args.start.now)
    c.from.result (BreaksEnd c.args.defs.now.list c.args.program.now) c.in_ok-run.field-0 c.in-Ends.field-0
    c.in-Ends.field-1 c.in-Ends.is c.in_ok-run.ensures.answer)

pub returns-in-Reached : goal.returns-in-Reached
returns-in-Reached c =
    subst (λ (n : ℕ). IfOk c.breaks_end.result (λ yes. IsTrue yes
    ↔ ComesTo c.args.program.now c.args.w c.args.picks.now (state_of c.args.start.now) n
    (BreaksEnd c.args.defs.now.list c.args.program.now))) c.from.ensures
    (IfOk-weaker c.breaks_end.result _ _
    (λ yes tells. reached c.args.program.now c.args.w c.args.picks.now (state_of c.args.start.now)
    c.from.result (BreaksEnd c.args.defs.now.list c.args.program.now) c.in_ok-run.field-0 c.in-Reached.config yes
    c.in-Reached.is c.in_ok-run.ensures.answer tells) c.breaks_end.ensures)
