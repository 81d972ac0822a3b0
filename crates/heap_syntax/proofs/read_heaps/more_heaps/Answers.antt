use Rattle.std.proofs.Common.{◌≡◌, ◌-◌, ◌<◌, length, refl, sym, true}
use Rattle.std.proofs.lemmas.Result.{err_from_is_err_and}
use Rattle.std.specs.Prelude.{Ok}
use Rattle.cyc_grammar.specs.Syntax.{begins, is_one, after}
use Rattle.heap_syntax.specs.Words.{marked}
use Rattle.heap_syntax.specs.Trees.{heap_of}
use Rattle.heap_syntax.specs.Grammar.{kept_heap}
use Rattle.heap_syntax.proofs.KeepingLaws.{reading-begins, reading-goes, reading-ends, reading-fails}
use Rattle.heap_syntax.proofs.read_heaps.more_heaps.Goals as goal

pub loop-init : goal.loop-init
loop-init g c = rw (c.in_ok-push.ensures.items, c.new-items.ensures.items)
    (reading-begins (heap_of g.F.TermForm.seen) c.args.keep (is_one (marked c.args.between.now))
    (after (marked c.args.between.now) (kept_heap c.args.keep (g.F.TermForm.terms c.args.form.now)
    (g.F.TermForm.atoms c.args.form.now))) c.args.first c.args.cursor.now)

pub loop-preserved : goal.loop-preserved
loop-preserved g c =
    let item = (after (marked c.args.between.now) (kept_heap c.args.keep (g.F.TermForm.terms c.args.form.now)
    (g.F.TermForm.atoms c.args.form.now))) in
    let begin : begins (is_one (marked c.args.between.now)) c.loop.cursor ≡ true = sym c.if-not-is_next.ensures in
    let read : item.read c.loop.cursor ≡ Ok (heap_of g.F.TermForm.seen c.in_ok-item.item, c.kept_heap.new.cursor) = rw
    (c.in_ok-take.ensures, c.in_ok-item.ensures) refl in
    let lt : c.loop.counter < length c.args.cursor.now = rw (← c.left-end.ensures) c.loop-test.true in
    rw (c.in_ok-items.ensures.kept) (reading-goes (heap_of g.F.TermForm.seen) c.args.keep
    (is_one (marked c.args.between.now)) (after (marked c.args.between.now)
    (kept_heap c.args.keep (g.F.TermForm.terms c.args.form.now) (g.F.TermForm.atoms c.args.form.now)))
    (heap_of g.F.TermForm.seen c.args.first)
    c.args.cursor.now c.loop.items.items c.loop.counter c.loop.cursor c.in_ok-item.item c.kept_heap.new.cursor lt
    begin read c.loop.invariant)

pub returns-then-not-is_next : goal.returns-then-not-is_next
returns-then-not-is_next g c = reading-ends (heap_of g.F.TermForm.seen) c.args.keep (is_one (marked c.args.between.now))
    (after (marked c.args.between.now) (kept_heap c.args.keep (g.F.TermForm.terms c.args.form.now)
    (g.F.TermForm.atoms c.args.form.now))) (heap_of g.F.TermForm.seen c.args.first) c.args.cursor.now c.loop.items.items
    (length c.args.cursor.now - c.loop.counter) c.loop.cursor (sym c.if-not-is_next.ensures) c.loop.invariant

pub returns : goal.returns
returns g c = reading-ends (heap_of g.F.TermForm.seen) c.args.keep (is_one (marked c.args.between.now))
    (after (marked c.args.between.now) (kept_heap c.args.keep (g.F.TermForm.terms c.args.form.now)
    (g.F.TermForm.atoms c.args.form.now))) (heap_of g.F.TermForm.seen c.args.first) c.args.cursor.now c.loop.items.items
    (length c.args.cursor.now - c.loop.counter) c.loop.cursor (sym c.if-is_next.ensures) c.loop.invariant

pub returns-in_err-item : goal.returns-in_err-item
returns-in_err-item g c =
    let lt : c.loop.counter < length c.args.cursor.now = rw (← c.left-end.ensures) c.loop-test.true in
    let p = err_from_is_err_and c.from_residual-in_err-item.result c.from_residual-in_err-item.ensures.1 in
    rw (p.1, p.2) (reading-fails (heap_of g.F.TermForm.seen) c.args.keep (is_one (marked c.args.between.now))
    (after (marked c.args.between.now) (kept_heap c.args.keep (g.F.TermForm.terms c.args.form.now)
    (g.F.TermForm.atoms c.args.form.now))) (heap_of g.F.TermForm.seen c.args.first)
    c.args.cursor.now c.loop.items.items c.loop.counter c.loop.cursor c.in_err-item.field-0.0 lt
    (sym c.if-not-is_next.ensures) (rw (c.in_ok-take.ensures) c.in_err-item.ensures) c.loop.invariant)
