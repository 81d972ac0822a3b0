use Rattle.std.proofs.Common.{◌≡◌, ◌-◌, ◌<◌, Ok, length, refl, arith}
use Rattle.std.specs.Prelude.{map}
use Rattle.std.proofs.lemmas.List.{map_push}
use Rattle.std.proofs.lemmas.Result.{err_from_is_err_and}
use Rattle.cyc_grammar.proofs.Loop.{with_front-nil}
use Rattle.fo_syntax.specs.declared.terms.bracket.Awaited.TheVariants.{First}
use Rattle.fo_syntax.specs.Seen.{mark_seen}
use Rattle.fo_syntax.specs.Steps.{read_steps}
use Rattle.fo_syntax.specs.Grammar.{mark, marks, within}
use Rattle.fo_syntax.proofs.StepLoops.{goes_on, ends, stops, dies, wanted, deeper}
use Rattle.fo_syntax.proofs.terms.read_marks.marks.Goals as goal

pub loop-init : goal.loop-init
loop-init c =
    let whole : length c.args.cursor.now - 0 ≡ length c.args.cursor.now = omega arith in (
      rw (c.new-items.ensures.items, whole) (with_front-nil (read_steps (within c.args.locals) (length c.args.cursor.now)
          (First 0) c.args.cursor.now)),
      omega arith,
    )

pub returns-in-Nothing : goal.returns-in-Nothing
unfolding marks
returns-in-Nothing c = stops (within c.args.locals) (map mark_seen c.loop.items.items)
    (length c.args.cursor.now - c.loop.counter) c.loop.awaited c.loop.cursor
    (read_steps (within c.args.locals) (length c.args.cursor.now) (First 0) c.args.cursor.now) (rw c.in-Nothing.is refl)
    c.loop.invariant.0

pub returns-in_err-item : goal.returns-in_err-item
unfolding marks
returns-in_err-item c =
    let lt : c.loop.counter < length c.args.cursor.now = rw (← c.left-end.ensures) c.loop-test.true in
    let p = err_from_is_err_and c.from_residual.result c.from_residual.ensures.1 in
    rw (p.1, p.2) (ends (within c.args.locals) c.in_err-item.field-0.0 (map mark_seen c.loop.items.items)
    (length c.args.cursor.now) c.loop.counter c.loop.awaited c.loop.cursor
    (read_steps (within c.args.locals) (length c.args.cursor.now) (First 0) c.args.cursor.now) lt
    (wanted c.loop.awaited c.in_default.not-Nothing) c.in_err-item.ensures c.loop.invariant.0)

pub behind-awaited-requires : goal.behind-awaited-requires
behind-awaited-requires c = omega (arith, c.loop.invariant.1, c.loop-test.true, c.left-end.type_inv)

pub loop-preserved : goal.loop-preserved
loop-preserved c =
    let lt : c.loop.counter < length c.args.cursor.now = rw (← c.left-end.ensures) c.loop-test.true in
    let read : (mark c.args.locals c.loop.awaited).read c.loop.cursor
    ≡ Ok (mark_seen c.in_ok-item.item, c.mark.new.cursor) = c.in_ok-item.ensures in
    let whole = read_steps (within c.args.locals) (length c.args.cursor.now) (First 0) c.args.cursor.now in (
      rw (c.in_ok-push.ensures.items, map_push, c.behind-awaited.ensures)
          (goes_on (within c.args.locals) (map mark_seen c.loop.items.items) (length c.args.cursor.now)
          c.loop.counter c.loop.awaited c.loop.cursor (mark_seen c.in_ok-item.item) c.mark.new.cursor whole lt
          (wanted c.loop.awaited c.in_default.not-Nothing) read c.loop.invariant.0),
      rw c.behind-awaited.ensures (deeper c.loop.awaited (mark_seen c.in_ok-item.item)
          c.loop.counter c.loop.invariant.1),
    )

pub returns-in-Nothing-awaited : goal.returns-in-Nothing-awaited
unfolding marks
returns-in-Nothing-awaited c = stops (within c.args.locals) (map mark_seen c.loop.items.items)
    (length c.args.cursor.now - c.loop.counter) c.loop.awaited c.loop.cursor
    (read_steps (within c.args.locals) (length c.args.cursor.now) (First 0) c.args.cursor.now)
    (rw c.in-Nothing-awaited.is refl) c.loop.invariant.0

pub returns : goal.returns
unfolding marks
returns c =
    let none : length c.args.cursor.now - c.loop.counter ≡ 0 = omega (arith, c.loop-test.false, c.left-end.ensures) in
    rw c.left.ensures (dies (within c.args.locals) (map mark_seen c.loop.items.items)
    (length c.args.cursor.now - c.loop.counter) c.loop.awaited c.loop.cursor
    (read_steps (within c.args.locals) (length c.args.cursor.now) (First 0) c.args.cursor.now) none
    (wanted c.loop.awaited c.in_default-awaited.not-Nothing) c.loop.invariant.0)
