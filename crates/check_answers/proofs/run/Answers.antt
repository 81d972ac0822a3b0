use Rattle.std.proofs.Common.{◌≡◌, length, arith, ap, sym, ◌∙◌}
use Rattle.cyc_runs.specs.declared.endings.Status.TheVariants.{Success, Refused, Usage}
use Rattle.cyc_runs.specs.Endings.{is_answer}
use Rattle.cyc_runs.proofs.WaysToEnd.{ended_so}
use Rattle.check_answers.specs.Answers.{usage_text}
use Rattle.check_answers.proofs.Alone.{checked_part, checked_wrote, told_accepted, told_holds, told_one, told_refused}
use Rattle.check_answers.proofs.Alone.{usage_part, usage_status, usage_wrote}
use Rattle.check_answers.proofs.run.Goals as goal

pub returns-in-empty-clause-answered : goal.returns-in-empty-clause-answered
returns-in-empty-clause-answered g c h =
    let none : 0 ≡ length c.args.words.now = omega (arith, c.in-empty.len_below) in
    checked_wrote (length c.args.words.now) (g.S.Source.left c.args.src.now) (g.K.Sink.written c.args.out.now)
    (g.K.Sink.written c.check_input.new.out) c.check_input.result none (c.check_input.ensures.answered h)

pub returns-in-empty-clause-exact : goal.returns-in-empty-clause-exact
returns-in-empty-clause-exact g c input ending text told answer quiet no_faults =
    let none : 0 ≡ length c.args.words.now = omega (arith, c.in-empty.len_below) in
    ended_so _ _ _ _ _ c.check_input.ensures.answered (λ e. (c.check_input.ensures.read_fault e).0)
    (λ e. (c.check_input.ensures.write_fault e).0) quiet no_faults
    (told_one (length c.args.words.now) (g.S.Source.left c.args.src.now) (g.K.Sink.written c.args.out.now)
    (g.K.Sink.written c.check_input.new.out) input c.check_input.result ending text none told answer)

pub returns-in-empty-clause-headline : goal.returns-in-empty-clause-headline
returns-in-empty-clause-headline g c h =
    told_holds (g.S.Source.left c.args.src.now) (g.K.Sink.written c.args.out.now)
    (g.K.Sink.written c.check_input.new.out) c.check_input.result (c.check_input.ensures.answered (ap is_answer h))
    h

pub returns-in-empty-clause-refusal : goal.returns-in-empty-clause-refusal
returns-in-empty-clause-refusal g c h =
    told_refused (g.S.Source.left c.args.src.now) (g.K.Sink.written c.args.out.now)
    (g.K.Sink.written c.check_input.new.out) c.check_input.result (c.check_input.ensures.answered (ap is_answer h))
    h

pub returns-in-empty-clause-accepts : goal.returns-in-empty-clause-accepts
returns-in-empty-clause-accepts g c input file none told short read correct few quiet no_faults =
    ended_so _ _ _ _ _ c.check_input.ensures.answered (λ e. (c.check_input.ensures.read_fault e).0)
    (λ e. (c.check_input.ensures.write_fault e).0) quiet no_faults
    (told_accepted (g.S.Source.left c.args.src.now) (g.K.Sink.written c.args.out.now)
    (g.K.Sink.written c.check_input.new.out) input file c.check_input.result told short read correct few)

pub returns-in-empty-clause-write_fault : goal.returns-in-empty-clause-write_fault
returns-in-empty-clause-write_fault g c h =
    let wrote = c.check_input.ensures.write_fault h in
    let none : 0 ≡ length c.args.words.now = omega (arith, c.in-empty.len_below) in (
      wrote.0,
      checked_part (length c.args.words.now) (g.S.Source.left c.args.src.now) (g.K.Sink.written c.args.out.now)
          (g.K.Sink.written c.check_input.new.out) none wrote.1,
    )

pub returns-in_default-clause-answered : goal.returns-in_default-clause-answered
returns-in_default-clause-answered g c h =
    usage_wrote (length c.args.words.now) (g.S.Source.left c.args.src.now) (g.K.Sink.written c.args.out.now)
    (g.K.Sink.written c.give_made.new.out) c.give_made.result c.in_default.len_at_least
    (c.give_made.ensures.whole Usage usage_text c.fixed_answer.ensures h)

pub returns-in_default-clause-exact : goal.returns-in_default-clause-exact
returns-in_default-clause-exact g c input ending text told answer quiet no_faults =
    ended_so _ _ _ _ _ (c.give_made.ensures.whole Usage usage_text c.fixed_answer.ensures)
    (λ e. absurd (c.give_made.ensures.read_fault e)) c.give_made.ensures.cause quiet no_faults
    (λ wrote. wrote.0 ∙ sym (usage_status (length c.args.words.now) input ending text c.in_default.len_at_least answer))

pub returns-in_default-clause-headline : goal.returns-in_default-clause-headline
returns-in_default-clause-headline g c h =
    let usage = (c.give_made.ensures.whole Usage usage_text c.fixed_answer.ensures (ap is_answer h)).0 in
    absurd (let e : Success ≡ Usage = sym h ∙ usage in cc)

pub returns-in_default-clause-refusal : goal.returns-in_default-clause-refusal
returns-in_default-clause-refusal g c h =
    let usage = (c.give_made.ensures.whole Usage usage_text c.fixed_answer.ensures (ap is_answer h)).0 in
    absurd (let e : Refused ≡ Usage = sym h ∙ usage in cc)

pub returns-in_default-clause-accepts : goal.returns-in_default-clause-accepts
returns-in_default-clause-accepts g c input file none = absurd (omega (arith, none, c.in_default.len_at_least))

pub returns-in_default-clause-write_fault : goal.returns-in_default-clause-write_fault
returns-in_default-clause-write_fault g c h = (
  c.give_made.ensures.cause h,
  usage_part (length c.args.words.now) (g.S.Source.left c.args.src.now)
      (g.K.Sink.written c.args.out.now) (g.K.Sink.written c.give_made.new.out) c.in_default.len_at_least
      (c.give_made.ensures.part Usage usage_text c.fixed_answer.ensures h),
)
