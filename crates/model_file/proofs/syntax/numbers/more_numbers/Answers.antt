use Rattle.std.proofs.Common.{◌≡◌, ◌-◌, length, refl, sym, true, ◌<◌}
use Rattle.std.proofs.lemmas.Result.{err_from_is_err_and}
use Rattle.std.specs.Prelude.{Ok}
use Rattle.cyc_grammar.specs.Syntax.{begins, is_one, read_many, one, after}
use Rattle.cyc_grammar.specs.Classes.{number}
use Rattle.cyc_grammar.specs.Giving.{with_front}
use Rattle.cyc_grammar.proofs.Loop.{goes_on, ends}
use Rattle.heap_syntax.specs.Words.{comma}
use Rattle.heap_syntax.proofs.Loops.{stops}
use Rattle.model_file.proofs.syntax.numbers.more_numbers.Goals as goal

pub loop-preserved : goal.loop-preserved
loop-preserved c =
    let item = after comma (one number) in
    let total = with_front c.args.items.items (read_many (is_one comma) item (length c.args.cursor.now)
    c.args.cursor.now) in
    let begin : begins (is_one comma) c.loop.cursor ≡ true = sym c.if-not-is_symbol_next.ensures in
    let read : item.read c.loop.cursor ≡ Ok (c.in_ok-number.field-0, c.number.new.self) = rw
    (c.in_ok-symbol.ensures, c.in_ok-number.ensures) refl in
    let lt : c.loop.counter < length c.args.cursor.now = rw (← c.left-end.ensures) c.loop-test.true in
    rw (c.in_ok-push.ensures.items) (goes_on (is_one comma) item c.loop.items.items (length c.args.cursor.now)
    c.loop.counter c.loop.cursor c.in_ok-number.field-0 c.number.new.self total lt begin read c.loop.invariant)

pub returns-then-not-is_symbol_next : goal.returns-then-not-is_symbol_next
returns-then-not-is_symbol_next c =
    let item = after comma (one number) in
    let total = with_front c.args.items.items (read_many (is_one comma) item (length c.args.cursor.now)
    c.args.cursor.now) in
    stops (is_one comma) item c.loop.items.items (length c.args.cursor.now - c.loop.counter) c.loop.cursor total
    (sym c.if-not-is_symbol_next.ensures) c.loop.invariant

pub returns-in_err-number : goal.returns-in_err-number
returns-in_err-number c =
    let item = after comma (one number) in
    let total = with_front c.args.items.items (read_many (is_one comma) item (length c.args.cursor.now)
    c.args.cursor.now) in
    let lt : c.loop.counter < length c.args.cursor.now = rw (← c.left-end.ensures) c.loop-test.true in
    let p = err_from_is_err_and c.from_residual-in_err-number.result c.from_residual-in_err-number.ensures.1 in
    rw (p.1, p.2) (ends (is_one comma) item c.in_err-number.field-0.0 c.loop.items.items (length c.args.cursor.now)
    c.loop.counter c.loop.cursor total lt (sym c.if-not-is_symbol_next.ensures)
    (rw (c.in_ok-symbol.ensures) c.in_err-number.ensures) c.loop.invariant)
