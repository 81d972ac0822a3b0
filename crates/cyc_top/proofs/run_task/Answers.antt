use Rattle.std.proofs.Common.{subst, ◌+◌, ◌*◌}
use Rattle.cyc_runs.specs.Texts.{ring_text}
use Rattle.cyc_words.specs.Words.{usage_text}
use Rattle.cyc_words.specs.declared.tasks.Task.TheVariants.{Check, Prove, Ring, Upgrade, Sat, Model, Disprove}
use Rattle.cyc_words.specs.declared.tasks.Task.TheVariants.{FirstOrderProve, FirstOrderCheck}
use Rattle.cyc_runs.specs.declared.endings.Status.TheVariants.{Success, Usage}
use Rattle.cyc_runs.specs.Runs.{IsAnswerOf}
use Rattle.cyc_runs.specs.Runs as runs
use Rattle.command_answers.specs.DisproveAnswers.{IsDisproved}
use Rattle.command_answers.specs.Searches.{IsFirstOrderSearched}
use Rattle.cyc_top.specs.Answers.{IsSearched}
use Rattle.cyc_top.proofs.Told.{answer_as, both_ok, part_as, ring_part, ring_wrote, task_is, usage_part, usage_wrote}
use Rattle.cyc_top.proofs.run_task.Goals as goal

pub returns-in-Some-Check-clause-write_fault : goal.returns-in-Some-Check-clause-write_fault
returns-in-Some-Check-clause-write_fault g c =
    λ e.
    let wrote = c.check_input.ensures.write_fault e in (
      wrote.0,
      part_as _ _ _ _ _ (task_is c.args.task c.in-Some-Check.field-0 Check c.in-Some-Check.is
          (rw c.in-Some-Check.is at c.in-Some-Check.field-0-is)) wrote.1,
    )

pub returns-in-Some-Prove-clause-write_fault : goal.returns-in-Some-Prove-clause-write_fault
returns-in-Some-Prove-clause-write_fault g c =
    λ e.
    let wrote = c.run_over.ensures.write_fault e in (
      wrote.0,
      part_as _ _ _ _ _ (task_is c.args.task c.in-Some-Prove.field-0 (Prove c.in-Some-Prove.depth)
          c.in-Some-Prove.is (rw c.in-Some-Prove.is at c.in-Some-Prove.field-0-is))
          (subst (λ d. runs.WrotePart (IsAnswerOf (IsSearched d)) (g.S.Source.left c.args.src.now)
          (g.K.Sink.written c.args.out.now) (g.K.Sink.written c.run_over.new.out)) c.new.ensures wrote.1),
    )

pub returns-in-Some-Upgrade-clause-write_fault : goal.returns-in-Some-Upgrade-clause-write_fault
returns-in-Some-Upgrade-clause-write_fault g c =
    λ e.
    let wrote = c.run_over-in-Some-Upgrade.ensures.write_fault e in (
      wrote.0,
      part_as _ _ _ _ _ (task_is c.args.task c.in-Some-Upgrade.field-0 Upgrade c.in-Some-Upgrade.is
          (rw c.in-Some-Upgrade.is at c.in-Some-Upgrade.field-0-is)) wrote.1,
    )

pub returns-in-Some-Sat-clause-write_fault : goal.returns-in-Some-Sat-clause-write_fault
returns-in-Some-Sat-clause-write_fault g c =
    λ e.
    let wrote = c.run_over-in-Some-Sat.ensures.write_fault e in (
      wrote.0,
      part_as _ _ _ _ _ (task_is c.args.task c.in-Some-Sat.field-0 Sat c.in-Some-Sat.is
          (rw c.in-Some-Sat.is at c.in-Some-Sat.field-0-is)) wrote.1,
    )

pub returns-in-Some-Model-clause-write_fault : goal.returns-in-Some-Model-clause-write_fault
returns-in-Some-Model-clause-write_fault g c =
    λ e.
    let wrote = c.run_over-in-Some-Model.ensures.write_fault e in (
      wrote.0,
      part_as _ _ _ _ _ (task_is c.args.task c.in-Some-Model.field-0 Model c.in-Some-Model.is
          (rw c.in-Some-Model.is at c.in-Some-Model.field-0-is)) wrote.1,
    )

pub returns-in-Some-Disprove-clause-write_fault : goal.returns-in-Some-Disprove-clause-write_fault
returns-in-Some-Disprove-clause-write_fault g c =
    λ e.
    let wrote = c.run_over-in-Some-Disprove.ensures.write_fault e in (
      wrote.0,
      part_as _ _ _ _ _ (task_is c.args.task c.in-Some-Disprove.field-0 (Disprove c.in-Some-Disprove.cells)
          c.in-Some-Disprove.is (rw c.in-Some-Disprove.is at c.in-Some-Disprove.field-0-is))
          (subst (λ d. runs.WrotePart (IsAnswerOf (IsDisproved d)) (g.S.Source.left c.args.src.now)
          (g.K.Sink.written c.args.out.now) (g.K.Sink.written c.run_over-in-Some-Disprove.new.out))
          c.new-in-Some-Disprove.ensures wrote.1),
    )

pub returns-in-Some-FirstOrderProve-clause-write_fault : goal.returns-in-Some-FirstOrderProve-clause-write_fault
returns-in-Some-FirstOrderProve-clause-write_fault g c =
    λ e.
    let wrote = c.run_over-in-Some-FirstOrderProve.ensures.write_fault e in (
      wrote.0,
      part_as _ _ _ _ _ (task_is c.args.task c.in-Some-FirstOrderProve.field-0
          (FirstOrderProve c.in-Some-FirstOrderProve.depth) c.in-Some-FirstOrderProve.is
          (rw c.in-Some-FirstOrderProve.is at c.in-Some-FirstOrderProve.field-0-is))
          (subst (λ d. runs.WrotePart (IsAnswerOf (IsFirstOrderSearched d)) (g.S.Source.left c.args.src.now)
          (g.K.Sink.written c.args.out.now) (g.K.Sink.written c.run_over-in-Some-FirstOrderProve.new.out))
          c.new-in-Some-FirstOrderProve.ensures wrote.1),
    )

pub returns-in-Some-FirstOrderCheck-clause-write_fault : goal.returns-in-Some-FirstOrderCheck-clause-write_fault
returns-in-Some-FirstOrderCheck-clause-write_fault g c =
    λ e.
    let wrote = c.run_over-in-Some-FirstOrderCheck.ensures.write_fault e in (
      wrote.0,
      part_as _ _ _ _ _
          (task_is c.args.task c.in-Some-FirstOrderCheck.field-0 FirstOrderCheck c.in-Some-FirstOrderCheck.is
          (rw c.in-Some-FirstOrderCheck.is at c.in-Some-FirstOrderCheck.field-0-is)) wrote.1,
    )

pub returns-in-Some-Ring-clause-answered : goal.returns-in-Some-Ring-clause-answered
returns-in-Some-Ring-clause-answered g c =
    λ a.
    let k = c.in-Some-Ring.k in
    let made = both_ok _ _ c.answer_to_ring.result c.answer_to_ring.ensures.status c.answer_to_ring.ensures.text in
    answer_as _ _ _ _ _ _ (task_is c.args.task c.in-Some-Ring.field-0 (Ring c.in-Some-Ring.k) c.in-Some-Ring.is
    (rw c.in-Some-Ring.is at c.in-Some-Ring.field-0-is))
    (ring_wrote k _ _ _ _ (c.give_made.ensures.whole Success (ring_text k (8 * k + 1) 1) made a))

pub returns-in-Some-Ring-clause-write_fault : goal.returns-in-Some-Ring-clause-write_fault
returns-in-Some-Ring-clause-write_fault g c =
    λ e.
    let k = c.in-Some-Ring.k in
    let made = both_ok _ _ c.answer_to_ring.result c.answer_to_ring.ensures.status c.answer_to_ring.ensures.text in (
      c.give_made.ensures.cause e,
      part_as _ _ _ _ _ (task_is c.args.task c.in-Some-Ring.field-0 (Ring c.in-Some-Ring.k) c.in-Some-Ring.is
          (rw c.in-Some-Ring.is at c.in-Some-Ring.field-0-is))
          (ring_part k _ _ _ (c.give_made.ensures.part Success (ring_text k (8 * k + 1) 1) made e)),
    )

pub returns-in-None-clause-answered : goal.returns-in-None-clause-answered
returns-in-None-clause-answered g c =
    λ a. answer_as _ _ _ _ _ _ c.in-None.is (usage_wrote _ _ _ _
    (c.give_made-in-None.ensures.whole Usage usage_text c.fixed_answer.ensures a))

pub returns-in-None-clause-write_fault : goal.returns-in-None-clause-write_fault
returns-in-None-clause-write_fault g c =
    λ e. (
      c.give_made-in-None.ensures.cause e,
      part_as _ _ _ _ _ c.in-None.is
          (usage_part _ _ _ (c.give_made-in-None.ensures.part Usage usage_text c.fixed_answer.ensures e)),
    )
