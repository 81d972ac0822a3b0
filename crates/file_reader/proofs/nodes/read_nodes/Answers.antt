use Rattle.std.proofs.Common.{map, subst, arith}
use Rattle.std.proofs.lemmas.Result.{err_from_is_err_and}
use Rattle.cyc_lex.specs.Word.{word_of}
use Rattle.piecewise_lex.specs.Spans.{front_tokens}
use Rattle.piecewise_lex.specs.Taking.{reading}
use Rattle.piecewise_lex.proofs.TakingLaws.{taken-stops}
use Rattle.file_reader.specs.Runs.{IsStep}
use Rattle.file_reader.proofs.RunLaws.{tokens-of-lexemes, ended-some, span-size, run-none, run-told, run-stretch}
use Rattle.file_reader.proofs.RunLaws.{span-bytes, run-on, run-dies}
use Rattle.file_reader.proofs.nodes.read_nodes.Goals as goal

pub statements-init : goal.statements-init
statements-init c = run-none c.args.place c.args.comment c.args.text.now c.args.known.now c.args.found.now
    c.requires.room c.utf8.text c.requires.few c.requires.steady

pub returns-in_err-span : goal.returns-in_err-span
returns-in_err-span c =
    let p = err_from_is_err_and c.from_residual.result c.from_residual.ensures.1 in
    let l = c.statements in
    rw (p.1, p.2) (taken-stops (reading c.args.place c.args.comment c.args.text.now)
    (reading l.place l.comment l.rest.now)
    l.invariant.tokens c.in_err-span.field-0.0 l.invariant.taken c.in_err-span.ensures.taken)

pub cursor_over-cursor-requires-clause-stretch : goal.cursor_over-cursor-requires-clause-stretch
cursor_over-cursor-requires-clause-stretch c =
    let l = c.statements in
    run-stretch c.args.place c.args.comment c.args.text.now c.args.known.now c.args.found.now l.found l.place l.comment
    l.rest l.invariant c.in_ok-span.span c.in_ok-span.ensures.taken.front

pub cursor_over-cursor-requires-clause-tokens : goal.cursor_over-cursor-requires-clause-tokens
cursor_over-cursor-requires-clause-tokens c =
    let l = c.statements in
    let s = c.in_ok-span.span in
    tokens-of-lexemes (map word_of (front_tokens s.tokens (reading l.place l.comment l.rest.now)))
    c.in_ok-span.ensures.taken.front.lexemes

pub take_step-requires-clause-stretch : goal.take_step-requires-clause-stretch
take_step-requires-clause-stretch c =
    let l = c.statements in
    run-stretch c.args.place c.args.comment c.args.text.now c.args.known.now c.args.found.now l.found l.place l.comment
    l.rest l.invariant c.in_ok-span.span c.in_ok-span.ensures.taken.front

pub dead-requires-clause-stretch : goal.dead-requires-clause-stretch
dead-requires-clause-stretch c =
    let l = c.statements in
    run-stretch c.args.place c.args.comment c.args.text.now c.args.known.now c.args.found.now l.found l.place l.comment
    l.rest l.invariant c.in_ok-span.span c.in_ok-span.ensures.taken.front

pub returns-in-Dead : goal.returns-in-Dead
returns-in-Dead c =
    let l = c.statements in
    let s = c.in_ok-span.span in
    let k = c.args.known.now in
    let new = c.take_step.new.found in
    let us = front_tokens s.tokens (reading l.place l.comment l.rest.now) in
    run-dies c.args.place c.args.comment c.args.text.now k c.args.found.now l.found l.place l.comment l.rest.now
    l.invariant s c.in_ok-span.ensures.taken.front
    new c.in-Dead.left c.dead.result c.dead.ensures
    (subst (IsStep k us l.found new) c.in-Dead.is c.in_ok-take_step.ensures)

pub returns-then-not-span : goal.returns-then-not-span
returns-then-not-span c =
    let l = c.statements in
    let s = c.in_ok-span.span in
    let k = c.args.known.now in
    let new = c.take_step.new.found in
    let us = front_tokens s.tokens (reading l.place l.comment l.rest.now) in
    run-told c.args.place c.args.comment c.args.text.now k c.args.found.now new s.place s.comment s.rest
    (run-on c.args.place c.args.comment c.args.text.now k c.args.found.now l.found l.place l.comment l.rest.now
    l.invariant s c.in_ok-span.ensures.taken.front
    new (subst (IsStep k us l.found new) c.in-Taken.is c.in_ok-take_step.ensures))

pub statements-smaller : goal.statements-smaller
statements-smaller c =
    let l = c.statements in
    let s = c.in_ok-span.span in
    let r = reading l.place l.comment l.rest.now in
    let f = c.in_ok-span.ensures.taken.front in
    omega (
      arith,
      span-bytes c.args.place c.args.comment c.args.text.now c.args.known.now c.args.found.now l.found l.place
          l.comment l.rest.now l.invariant s f,
      span-size r s f,
      ended-some (front_tokens s.tokens r) s.ended (reading s.place s.comment s.rest.now)
          c.in_ok-span.ensures.taken.ends c.if-not-span.false,
    )

pub statements-preserved : goal.statements-preserved
statements-preserved c =
    let l = c.statements in
    let s = c.in_ok-span.span in
    let k = c.args.known.now in
    let new = c.take_step.new.found in
    let us = front_tokens s.tokens (reading l.place l.comment l.rest.now) in
    run-on c.args.place c.args.comment c.args.text.now k c.args.found.now l.found l.place l.comment l.rest.now
    l.invariant s c.in_ok-span.ensures.taken.front
    new (subst (IsStep k us l.found new) c.in-Taken.is c.in_ok-take_step.ensures)
