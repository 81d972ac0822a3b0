use Rattle.std.proofs.Common.{◌≡◌, ◌-◌, length, refl, sym, true, ◌<◌}
use Rattle.std.proofs.lemmas.List.{map_push}
use Rattle.std.proofs.lemmas.Result.{err_from_is_err_and}
use Rattle.std.specs.Prelude.{Ok, map}
use Rattle.cyc_grammar.specs.Syntax.{begins, is_one, read_many, after, one}
use Rattle.cyc_grammar.specs.Giving.{with_front}
use Rattle.cyc_grammar.proofs.Loop.{goes_on, ends}
use Rattle.heap_syntax.proofs.Loops.{stops}
use Rattle.heap_syntax.specs.Words.{comma, free_name}
use Rattle.problem_syntax.specs.Trees.{text_of}
use Rattle.problem_syntax.proofs.read_definitions.more_names.Goals as goal

pub loop-preserved : goal.loop-preserved
loop-preserved c =
    let item = (after comma (one free_name)) in
    let total = (with_front (map text_of c.args.items.items)
    (read_many (is_one comma) (after comma (one free_name)) (length c.args.cursor.now) c.args.cursor.now)) in
    let begin : begins (is_one comma) c.loop.cursor ≡ true = sym c.if-not-is_symbol_next.ensures in
    let read : item.read c.loop.cursor ≡ Ok (text_of c.in_ok-free_name.field-0, c.free_name.new.cursor) = rw
    (c.in_ok-symbol.ensures, c.in_ok-free_name.ensures) refl in
    let lt : c.loop.counter < length c.args.cursor.now = rw (← c.left-end.ensures) c.loop-test.true in
    rw (c.in_ok-push.ensures.items, map_push) (goes_on (is_one comma) item (map text_of c.loop.items.items)
    (length c.args.cursor.now) c.loop.counter c.loop.cursor (text_of c.in_ok-free_name.field-0)
    c.free_name.new.cursor total lt begin read c.loop.invariant)

pub returns-then-not-is_symbol_next : goal.returns-then-not-is_symbol_next
returns-then-not-is_symbol_next c = stops (is_one comma) (after comma (one free_name)) (map text_of c.loop.items.items)
    ((length c.args.cursor.now) - c.loop.counter) c.loop.cursor
    (with_front (map text_of c.args.items.items) (read_many (is_one comma) (after comma (one free_name))
    (length c.args.cursor.now) c.args.cursor.now)) (sym c.if-not-is_symbol_next.ensures) c.loop.invariant

pub returns-in_err-free_name : goal.returns-in_err-free_name
returns-in_err-free_name c =
    let lt : c.loop.counter < length c.args.cursor.now = rw (← c.left-end.ensures) c.loop-test.true in
    let p = err_from_is_err_and c.from_residual-in_err-free_name.result c.from_residual-in_err-free_name.ensures.1 in
    rw (p.1, p.2) (ends (is_one comma) (after comma (one free_name)) c.in_err-free_name.field-0.0
    (map text_of c.loop.items.items) (length c.args.cursor.now) c.loop.counter c.loop.cursor
    (with_front (map text_of c.args.items.items) (read_many (is_one comma) (after comma (one free_name))
    (length c.args.cursor.now) c.args.cursor.now)) lt (sym c.if-not-is_symbol_next.ensures)
    (rw (c.in_ok-symbol.ensures) c.in_err-free_name.ensures) c.loop.invariant)
