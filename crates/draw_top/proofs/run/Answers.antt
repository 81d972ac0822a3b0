use Rattle.std.proofs.Common.{map, sym}
use Rattle.std.specs.Prelude.{string_bytes}
use Rattle.cyc_runs.specs.declared.endings.Status.TheVariants.{Usage}
use Rattle.draw_top.specs.Answers.{usage_text}
use Rattle.draw_top.proofs.Told.{usage_part, usage_wrote, view_part, view_wrote}
use Rattle.draw_top.proofs.run.Goals as goal

pub returns-in-Some-clause-answered : goal.returns-in-Some-clause-answered
returns-in-Some-clause-answered g c h =
    view_wrote (map string_bytes c.args.words.now) c.in-Some.view (g.S.Source.left c.args.src.now)
    (g.K.Sink.written c.args.out.now) (g.K.Sink.written c.run_over.new.out) c.run_over.result
    (sym c.in-Some.ensures) (c.run_over.ensures.answered h)

pub returns-in-Some-clause-write_fault : goal.returns-in-Some-clause-write_fault
returns-in-Some-clause-write_fault g c h =
    let w = c.run_over.ensures.write_fault h in (
      w.0,
      view_part (map string_bytes c.args.words.now) c.in-Some.view (g.S.Source.left c.args.src.now)
          (g.K.Sink.written c.args.out.now) (g.K.Sink.written c.run_over.new.out) (sym c.in-Some.ensures) w.1,
    )

pub returns-in-None-clause-answered : goal.returns-in-None-clause-answered
returns-in-None-clause-answered g c h =
    usage_wrote (map string_bytes c.args.words.now) (g.S.Source.left c.args.src.now) (g.K.Sink.written c.args.out.now)
    (g.K.Sink.written c.give_made.new.out) c.give_made.result (sym c.in-None.ensures)
    (c.give_made.ensures.whole Usage usage_text c.fixed_answer.ensures h)

pub returns-in-None-clause-write_fault : goal.returns-in-None-clause-write_fault
returns-in-None-clause-write_fault g c h = (
  c.give_made.ensures.cause h,
  usage_part (map string_bytes c.args.words.now) (g.S.Source.left c.args.src.now)
      (g.K.Sink.written c.args.out.now) (g.K.Sink.written c.give_made.new.out) (sym c.in-None.ensures)
      (c.give_made.ensures.part Usage usage_text c.fixed_answer.ensures h),
)
