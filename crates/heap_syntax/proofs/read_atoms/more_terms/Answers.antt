use Rattle.std.proofs.Common.{◌≡◌, ◌-◌, length, refl, sym, true, ◌<◌}
use Rattle.std.proofs.lemmas.Result.{err_from_is_err_and}
use Rattle.std.proofs.lemmas.List.{map_push}
use Rattle.std.specs.Prelude.{Ok, map}
use Rattle.cyc_grammar.specs.Syntax.{begins, is_one, read_many, after}
use Rattle.cyc_grammar.specs.Giving.{with_front}
use Rattle.cyc_grammar.proofs.Loop.{goes_on, ends}
use Rattle.heap_syntax.specs.Words.{comma}
use Rattle.heap_syntax.proofs.Loops.{stops}
use Rattle.heap_syntax.proofs.read_atoms.more_terms.Goals as goal

pub loop-preserved : goal.loop-preserved
loop-preserved g c =
    let item = (after comma (g.F.TermForm.terms c.args.form.now).syntax) in
    let total = (with_front (map g.F.TermForm.seen c.args.items.items)
    (read_many (is_one comma) (after comma (g.F.TermForm.terms c.args.form.now).syntax) (length c.args.cursor.now)
    c.args.cursor.now)) in
    let begin : begins (is_one comma) c.loop.cursor ≡ true = sym c.if-not-is_symbol_next.ensures in
    let read : item.read c.loop.cursor ≡ Ok (g.F.TermForm.seen c.in_ok-read_term.field-0, c.read_term.new.cursor) = rw
    (c.in_ok-symbol.ensures, c.in_ok-read_term.ensures) refl in
    let lt : c.loop.counter < length c.args.cursor.now = rw (← c.left-end.ensures) c.loop-test.true in
    rw (c.in_ok-push.ensures.items, map_push) (goes_on (is_one comma) item (map g.F.TermForm.seen c.loop.items.items)
    (length c.args.cursor.now) c.loop.counter c.loop.cursor (g.F.TermForm.seen c.in_ok-read_term.field-0)
    c.read_term.new.cursor total lt begin read c.loop.invariant)

pub returns-then-not-is_symbol_next : goal.returns-then-not-is_symbol_next
returns-then-not-is_symbol_next g c = stops (is_one comma) (after comma (g.F.TermForm.terms c.args.form.now).syntax)
    (map g.F.TermForm.seen c.loop.items.items) ((length c.args.cursor.now) - c.loop.counter) c.loop.cursor
    (with_front (map g.F.TermForm.seen c.args.items.items) (read_many (is_one comma)
    (after comma (g.F.TermForm.terms c.args.form.now).syntax) (length c.args.cursor.now) c.args.cursor.now))
    (sym c.if-not-is_symbol_next.ensures) c.loop.invariant

pub returns-in_err-read_term : goal.returns-in_err-read_term
returns-in_err-read_term g c =
    let lt : c.loop.counter < length c.args.cursor.now = rw (← c.left-end.ensures) c.loop-test.true in
    let p = err_from_is_err_and c.from_residual-in_err-read_term.result c.from_residual-in_err-read_term.ensures.1 in
    rw (p.1, p.2) (ends (is_one comma) (after comma (g.F.TermForm.terms c.args.form.now).syntax)
    c.in_err-read_term.field-0.0 (map g.F.TermForm.seen c.loop.items.items) (length c.args.cursor.now)
    c.loop.counter c.loop.cursor (with_front (map g.F.TermForm.seen c.args.items.items)
    (read_many (is_one comma) (after comma (g.F.TermForm.terms c.args.form.now).syntax) (length c.args.cursor.now)
    c.args.cursor.now)) lt (sym c.if-not-is_symbol_next.ensures)
    (rw (c.in_ok-symbol.ensures) c.in_err-read_term.ensures) c.loop.invariant)

pub returns : goal.returns
returns g c = stops (is_one comma) (after comma (g.F.TermForm.terms c.args.form.now).syntax)
    (map g.F.TermForm.seen c.loop.items.items) ((length c.args.cursor.now) - c.loop.counter) c.loop.cursor
    (with_front (map g.F.TermForm.seen c.args.items.items) (read_many (is_one comma)
    (after comma (g.F.TermForm.terms c.args.form.now).syntax) (length c.args.cursor.now) c.args.cursor.now))
    (sym c.if-is_symbol_next.ensures) c.loop.invariant
