use Rattle.std.proofs.Common.{◌≡◌, length, refl, sym, true, ◌<◌}
use Rattle.std.specs.Prelude.{Ok}
use Rattle.cyc_grammar.specs.Syntax.{begins, is_one, read_many, one}
use Rattle.cyc_grammar.specs.Giving.{with_front}
use Rattle.cyc_grammar.proofs.Loop.{goes_on}
use Rattle.cyc_grammar.specs.Classes.{number}
use Rattle.heap_syntax.proofs.number_list.more_numbers.Goals as goal

pub loop-preserved : goal.loop-preserved
loop-preserved c =
    let item = (one number) in
    let total = with_front c.args.items.items (read_many (is_one number) item (length c.args.cursor.now)
    c.args.cursor.now) in
    let begin : begins (is_one number) c.loop.cursor ≡ true = sym c.if-not-is_number_next.ensures in
    let read : item.read c.loop.cursor ≡ Ok (c.in_ok-number.field-0, c.number.new.self) = rw (c.in_ok-number.ensures)
    refl in
    let lt : c.loop.counter < length c.args.cursor.now = rw (← c.left-end.ensures) c.loop-test.true in
    rw (c.in_ok-push.ensures.items) (goes_on (is_one number) item c.loop.items.items (length c.args.cursor.now)
    c.loop.counter c.loop.cursor c.in_ok-number.field-0 c.number.new.self total lt begin read c.loop.invariant)
