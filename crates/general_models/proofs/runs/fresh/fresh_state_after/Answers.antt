use Rattle.std.proofs.Common.{◌≤◌, ◌≡◌, subst, arith}
use Rattle.std.specs.Prelude.{slice_get}
use Rattle.goto_lang.specs.States.{state_of}
use Rattle.general_models.specs.Picks.{picks_of}
use Rattle.general_models.specs.Moves.{IsMove}
use Rattle.general_models.proofs.Moves.{few_picks}
use Rattle.general_models.proofs.RunEnds.{fresh_stuck, not_fresh, fresh_more}
use Rattle.general_models.proofs.SomeOf.{excluded}
use Rattle.general_models.proofs.runs.fresh.fresh_state_after.Goals as goal

pub returns-then-not-is_fresh_from : goal.returns-then-not-is_fresh_from
returns-then-not-is_fresh_from c = λ k e r.
    not_fresh c.args.program.now c.args.w c.args.picks.now c.args.first (state_of c.args.start.now)
    c.loop-done.done c.args.steps c.loop-done.used k (state_of c.loop-done.current) e c.command-command.result.now
    (omega arith) c.loop-done.invariant.run c.command-command.ensures.there
    (excluded c.is_fresh_from.result c.if-not-is_fresh_from.true c.is_fresh_from.ensures) r

pub returns-in-None : goal.returns-in-None
returns-in-None c = λ k e r.
    fresh_stuck c.args.program.now c.args.w c.args.picks.now c.args.first (state_of c.args.start.now)
    c.loop-done.done c.args.steps c.loop-done.used k (state_of c.loop-done.current) e c.in-None.field-0
    (omega arith) c.loop-done.invariant.run
    (subst (IsMove c.args.program.now c.args.w (slice_get c.args.picks.now c.loop-done.used)
    (state_of c.loop-done.current)) c.in-None.is c.in_ok-next_step.ensures) r

pub loop-done-preserved : goal.loop-done-preserved
loop-done-preserved c =
    let x = fresh_more c.args.program.now c.args.w c.args.picks.now c.args.first (state_of c.args.start.now)
    c.loop-done.done c.loop-done.used (state_of c.loop-done.current) c.command-command.result.now c.picks_of-used.result
    c.in_ok-next_step.field-0 c.in-To.next c.loop-done.invariant.run c.command-command.ensures.there
    c.picks_of-used.ensures (c.is_fresh_from.ensures.0 c.if-not-is_fresh_from.false) c.in_ok-next_step.ensures
    c.in-To.is in
    let l : picks_of c.command-command.result.now ≤ 1 = few_picks c.command-command.result.now in
    let e : c.picks_of-used.result ≡ picks_of c.command-command.result.now = c.picks_of-used.ensures in
    let few : c.loop-done.used ≤ c.loop-done.done = c.loop-done.invariant.few in
    record { run = x.0; state = x.1; few = omega arith }
