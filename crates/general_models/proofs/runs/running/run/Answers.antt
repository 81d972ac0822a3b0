use Rattle.std.proofs.Common.{◌≡◌, ◌≤◌, ℕ, subst, arith}
use Rattle.std.specs.Prelude.{slice_get}
use Rattle.goto_lang.specs.States.{state_of}
use Rattle.general_models.specs.Picks.{picks_of}
use Rattle.general_models.specs.Runs.{PickedRun}
use Rattle.general_models.specs.Moves.{IsMove}
use Rattle.general_models.proofs.Moves.{few_picks, run_more}
use Rattle.general_models.proofs.RunEnds.{exact_end}
use Rattle.general_models.proofs.runs.running.run.Goals as goal

pub returns-in-None : goal.returns-in-None
returns-in-None c =
    record {
      answer = exact_end c.args.program.now c.args.w c.args.picks.now (state_of c.args.start.now) c.args.steps _ (
        omega arith,
        c.loop-done.used,
        state_of c.loop-done.current,
        c.loop-done.invariant.run,
        subst (IsMove c.args.program.now c.args.w (slice_get c.args.picks.now c.loop-done.used)
            (state_of c.loop-done.current)) c.in-None.is c.in_ok-cause.ensures,
      );
    }

pub loop-done-preserved : goal.loop-done-preserved
loop-done-preserved c =
    let r = run_more c.args.program.now c.args.w c.args.picks.now c.loop-done.done (state_of c.args.start.now)
    c.loop-done.used (state_of c.loop-done.current)
    c.command.result.now c.picks_of-taken.result c.in_ok-cause.field-0 c.in-To.next c.loop-done.invariant.run
    c.command.ensures.there c.picks_of-taken.ensures c.in_ok-cause.ensures c.in-To.is in
    let l : picks_of c.command.result.now ≤ 1 = few_picks c.command.result.now in
    let e : c.picks_of-taken.result ≡ picks_of c.command.result.now = c.picks_of-taken.ensures in
    let few : c.loop-done.used ≤ c.loop-done.done = c.loop-done.invariant.few in
    record { run = r.0; state = r.1; few = omega arith }

pub overflow_add-used : goal.overflow_add-used
overflow_add-used c =
    let l : picks_of c.command.result.now ≤ 1 = few_picks c.command.result.now in
    let e : c.picks_of-taken.result ≡ picks_of c.command.result.now = c.picks_of-taken.ensures in
    let few : c.loop-done.used ≤ c.loop-done.done = c.loop-done.invariant.few in
    omega arith

pub returns : goal.returns
returns c =
    let all : c.loop-done.done ≡ c.args.steps = omega arith in
    record {
      answer = exact_end c.args.program.now c.args.w c.args.picks.now (state_of c.args.start.now) c.args.steps _ (
        c.loop-done.used,
        subst (λ (n : ℕ). PickedRun c.args.program.now c.args.w c.args.picks.now n
            (state_of c.args.start.now) c.loop-done.used (state_of c.loop-done.current)) all c.loop-done.invariant.run,
      );
    }
