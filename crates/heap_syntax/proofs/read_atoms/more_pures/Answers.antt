use Rattle.std.proofs.Common.{◌≡◌, ◌-◌, ◌<◌, length, refl, sym, true}
use Rattle.std.proofs.lemmas.Result.{err_from_is_err_and}
use Rattle.std.specs.Prelude.{Ok}
use Rattle.cyc_grammar.specs.Syntax.{begins, is_one, after}
use Rattle.heap_syntax.specs.Words.{comma}
use Rattle.heap_syntax.specs.Trees.{pure_of}
use Rattle.heap_syntax.specs.Grammar.{pure}
use Rattle.heap_syntax.proofs.KeepingLaws.{reading-begins, reading-goes, reading-ends, reading-fails}
use Rattle.heap_syntax.proofs.read_atoms.more_pures.Goals as goal

pub loop-init : goal.loop-init
loop-init g c = rw (c.in_ok-push.ensures.items, c.new-items.ensures.items)
    (reading-begins (pure_of g.F.TermForm.seen) c.args.keep (is_one comma)
    (after comma (pure (g.F.TermForm.terms c.args.form.now).syntax)) c.args.first c.args.cursor.now)

pub loop-preserved : goal.loop-preserved
loop-preserved g c =
    let item = (after comma (pure (g.F.TermForm.terms c.args.form.now).syntax)) in
    let begin : begins (is_one comma) c.loop.cursor ≡ true = sym c.if-not-is_symbol_next.ensures in
    let read : item.read c.loop.cursor ≡ Ok (pure_of g.F.TermForm.seen c.in_ok-item.item, c.pure.new.cursor) = rw
    (c.in_ok-symbol.ensures, c.in_ok-item.ensures) refl in
    let lt : c.loop.counter < length c.args.cursor.now = rw (← c.left-end.ensures) c.loop-test.true in
    rw (c.in_ok-items.ensures.kept) (reading-goes (pure_of g.F.TermForm.seen) c.args.keep (is_one comma)
    (after comma (pure (g.F.TermForm.terms c.args.form.now).syntax)) (pure_of g.F.TermForm.seen c.args.first)
    c.args.cursor.now c.loop.items.items c.loop.counter c.loop.cursor c.in_ok-item.item c.pure.new.cursor lt begin
    read c.loop.invariant)

pub returns-then-not-is_symbol_next : goal.returns-then-not-is_symbol_next
returns-then-not-is_symbol_next g c = reading-ends (pure_of g.F.TermForm.seen) c.args.keep (is_one comma)
    (after comma (pure (g.F.TermForm.terms c.args.form.now).syntax)) (pure_of g.F.TermForm.seen c.args.first)
    c.args.cursor.now c.loop.items.items (length c.args.cursor.now - c.loop.counter) c.loop.cursor
    (sym c.if-not-is_symbol_next.ensures) c.loop.invariant

pub returns : goal.returns
returns g c = reading-ends (pure_of g.F.TermForm.seen) c.args.keep (is_one comma)
    (after comma (pure (g.F.TermForm.terms c.args.form.now).syntax)) (pure_of g.F.TermForm.seen c.args.first)
    c.args.cursor.now c.loop.items.items (length c.args.cursor.now - c.loop.counter) c.loop.cursor
    (sym c.if-is_symbol_next.ensures) c.loop.invariant

pub returns-in_err-item : goal.returns-in_err-item
returns-in_err-item g c =
    let lt : c.loop.counter < length c.args.cursor.now = rw (← c.left-end.ensures) c.loop-test.true in
    let p = err_from_is_err_and c.from_residual-in_err-item.result c.from_residual-in_err-item.ensures.1 in
    rw (p.1, p.2) (reading-fails (pure_of g.F.TermForm.seen) c.args.keep (is_one comma)
    (after comma (pure (g.F.TermForm.terms c.args.form.now).syntax)) (pure_of g.F.TermForm.seen c.args.first)
    c.args.cursor.now c.loop.items.items c.loop.counter c.loop.cursor c.in_err-item.field-0.0 lt
    (sym c.if-not-is_symbol_next.ensures) (rw (c.in_ok-symbol.ensures) c.in_err-item.ensures) c.loop.invariant)
