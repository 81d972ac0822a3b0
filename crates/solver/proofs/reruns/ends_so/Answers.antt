use Rattle.std.proofs.Common.{subst}
use Rattle.std.specs.Prelude.{◌↔◌, IsTrue, IfOk}
use Rattle.std.proofs.lemmas.Result.{IfOk-weaker}
use Rattle.goto_lang.specs.States.{state_of}
use Rattle.general_models.specs.declared.runs.refuting.Ending.{Ending}
use Rattle.general_models.specs.Refuting.{IsRefuting}
use Rattle.run_file.specs.declared.tree.Outcome.TheVariants as outcomes
use Rattle.solver.proofs.RunEnds.{ends_told}
use Rattle.solver.proofs.reruns.ends_so.Goals as goal

pub returns-in_ok-faults-in-Faults : goal.returns-in_ok-faults-in-Faults
returns-in_ok-faults-in-Faults c =
    ends_told c.args.defs.now.list c.args.program.now c.args.picks.now (state_of c.args.start.now) c.headroom-w.result
    c.args.outcome.now (outcomes.Faults c.in-Faults.line c.in-Faults.step) c.in_ok-faults-in-Faults.faults c.headroom-w.ensures c.in-Faults.is
    c.in_ok-faults-in-Faults.ensures

pub returns-in_ok-repeats-in-Repeats : goal.returns-in_ok-repeats-in-Repeats
returns-in_ok-repeats-in-Repeats c =
    ends_told c.args.defs.now.list c.args.program.now c.args.picks.now (state_of c.args.start.now) c.headroom-w.result
    c.args.outcome.now (outcomes.Repeats c.in-Repeats.first c.in-Repeats.again) c.in_ok-repeats-in-Repeats.repeats c.headroom-w.ensures c.in-Repeats.is
    c.in_ok-repeats-in-Repeats.ensures.exact

pub returns-in_ok-grows-in-Grows : goal.returns-in_ok-grows-in-Grows
returns-in_ok-grows-in-Grows c =
    ends_told c.args.defs.now.list c.args.program.now c.args.picks.now (state_of c.args.start.now) c.headroom-w.result
    c.args.outcome.now (outcomes.Grows c.in-Grows.growth) c.in_ok-grows-in-Grows.grows c.headroom-w.ensures c.in-Grows.is
    (subst (λ (e : Ending). IsTrue c.in_ok-grows-in-Grows.grows ↔ IsRefuting c.args.program.now c.headroom-w.result
    c.args.picks.now (state_of c.args.start.now) e) c.in_ok-ending-in-Grows.ensures c.in_ok-grows-in-Grows.ensures.exact)

pub returns-in-Breaks : goal.returns-in-Breaks
returns-in-Breaks c = IfOk-weaker c.breaks_after.result _ _
    (λ said tells. ends_told c.args.defs.now.list c.args.program.now c.args.picks.now (state_of c.args.start.now)
    c.headroom-w.result c.args.outcome.now (outcomes.Breaks c.in-Breaks.step) said c.headroom-w.ensures c.in-Breaks.is
    tells) c.breaks_after.ensures
