use Rattle.std.proofs.Common.{◌≡◌, ap, map, subst, sym, ◌∙◌}
use Rattle.std.specs.Prelude.{string_bytes}
use Rattle.cyc_runs.specs.Endings.{is_answer}
use Rattle.cyc_runs.specs.Runs.{IsAnswerOf, WroteAnswer}
use Rattle.cyc_runs.specs.declared.endings.Status.TheVariants.{Success, Refused, Usage}
use Rattle.cyc_runs.proofs.WaysToEnd.{ended_so}
use Rattle.solve_top.specs.Answers.{IsSolved, usage_text}
use Rattle.solve_top.proofs.Told.{effort_ends, effort_part, effort_wrote, usage_ends, usage_part, usage_wrote}
use Rattle.solve_top.proofs.Wrote.{wrote_fails, wrote_holds}
use Rattle.solve_top.proofs.run.Goals as goal

pub returns-in-Some-clause-answered : goal.returns-in-Some-clause-answered
returns-in-Some-clause-answered g c h =
    effort_wrote (map string_bytes c.args.words.now) (g.S.Source.left c.args.src.now) (g.K.Sink.written c.args.out.now)
    (g.K.Sink.written c.run_over.new.out) c.in-Some.effort c.run_over.result
    (sym c.in-Some.ensures) (c.run_over.ensures.answered h)

pub returns-in-Some-clause-exact : goal.returns-in-Some-clause-exact
returns-in-Some-clause-exact g c input ending text told answer plain quiet no_faults =
    ended_so _ _ _ _ _ c.run_over.ensures.answered (λ e. (c.run_over.ensures.read_fault e).0)
    (λ e. (c.run_over.ensures.write_fault e).0) quiet no_faults
    (effort_ends (map string_bytes c.args.words.now) _ _ _ c.in-Some.effort input _ ending text (sym c.in-Some.ensures)
    told answer plain)

pub returns-in-Some-clause-headline : goal.returns-in-Some-clause-headline
returns-in-Some-clause-headline g c h =
    let told = g.S.Source.left c.args.src.now in
    let old = g.K.Sink.written c.args.out.now in
    let new = g.K.Sink.written c.run_over.new.out in
    wrote_holds told old new (subst (λ ending. WroteAnswer (IsAnswerOf IsSolved) told old new ending) h
    (c.run_over.ensures.answered (ap is_answer h)))

pub returns-in-Some-clause-refutation : goal.returns-in-Some-clause-refutation
returns-in-Some-clause-refutation g c h =
    let told = g.S.Source.left c.args.src.now in
    let old = g.K.Sink.written c.args.out.now in
    let new = g.K.Sink.written c.run_over.new.out in
    wrote_fails told old new (subst (λ ending. WroteAnswer (IsAnswerOf IsSolved) told old new ending) h
    (c.run_over.ensures.answered (ap is_answer h)))

pub returns-in-Some-clause-write_fault : goal.returns-in-Some-clause-write_fault
returns-in-Some-clause-write_fault g c h =
    let w = c.run_over.ensures.write_fault h in (
      w.0,
      effort_part (map string_bytes c.args.words.now) (g.S.Source.left c.args.src.now)
          (g.K.Sink.written c.args.out.now) (g.K.Sink.written c.run_over.new.out) c.in-Some.effort (sym c.in-Some.ensures)
          w.1,
    )

pub returns-in-None-clause-answered : goal.returns-in-None-clause-answered
returns-in-None-clause-answered g c h =
    usage_wrote (map string_bytes c.args.words.now) (g.S.Source.left c.args.src.now) (g.K.Sink.written c.args.out.now)
    (g.K.Sink.written c.give_made.new.out) c.give_made.result (sym c.in-None.ensures)
    (c.give_made.ensures.whole Usage usage_text c.fixed_answer.ensures h)

pub returns-in-None-clause-exact : goal.returns-in-None-clause-exact
returns-in-None-clause-exact g c input ending text told answer _ quiet no_faults =
    ended_so _ _ _ _ _ (c.give_made.ensures.whole Usage usage_text c.fixed_answer.ensures)
    (λ e. absurd (c.give_made.ensures.read_fault e)) c.give_made.ensures.cause quiet no_faults
    (λ wrote. usage_ends (map string_bytes c.args.words.now) (g.S.Source.left c.args.src.now)
    (g.K.Sink.written c.args.out.now) (g.K.Sink.written c.give_made.new.out) input _ ending text
    (sym c.in-None.ensures) answer wrote.0)

pub returns-in-None-clause-headline : goal.returns-in-None-clause-headline
returns-in-None-clause-headline g c h =
    let usage = (c.give_made.ensures.whole Usage usage_text c.fixed_answer.ensures (ap is_answer h)).0 in
    absurd (let e : Success ≡ Usage = sym h ∙ usage in cc)

pub returns-in-None-clause-refutation : goal.returns-in-None-clause-refutation
returns-in-None-clause-refutation g c h =
    let usage = (c.give_made.ensures.whole Usage usage_text c.fixed_answer.ensures (ap is_answer h)).0 in
    absurd (let e : Refused ≡ Usage = sym h ∙ usage in cc)

pub returns-in-None-clause-write_fault : goal.returns-in-None-clause-write_fault
returns-in-None-clause-write_fault g c h = (
  c.give_made.ensures.cause h,
  usage_part (map string_bytes c.args.words.now) (g.S.Source.left c.args.src.now)
      (g.K.Sink.written c.args.out.now) (g.K.Sink.written c.give_made.new.out) (sym c.in-None.ensures)
      (c.give_made.ensures.part Usage usage_text c.fixed_answer.ensures h),
)
