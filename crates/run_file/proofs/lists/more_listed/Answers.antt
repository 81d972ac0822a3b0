use Rattle.std.proofs.Common.{◌≡◌, length, refl, sym, true, ◌<◌}
use Rattle.std.specs.Prelude.{Ok, map}
use Rattle.std.proofs.lemmas.List.{map_push}
use Rattle.cyc_grammar.specs.Syntax.{begins, is_one, read_many, after}
use Rattle.cyc_grammar.specs.Giving.{with_front}
use Rattle.cyc_grammar.proofs.Loop.{goes_on}
use Rattle.heap_syntax.specs.Words.{comma}
use Rattle.run_file.proofs.lists.more_listed.Goals as goal

pub loop-preserved : goal.loop-preserved
loop-preserved g c =
    let item = after comma (g.I.Item.syntax c.args.item.now) in
    let total = with_front (map g.I.Item.seen c.args.items.items)
    (read_many (is_one comma) item (length c.args.cursor.now) c.args.cursor.now) in
    let begin : begins (is_one comma) c.loop.cursor ≡ true = sym c.if-not-is_symbol_next.ensures in
    let read : item.read c.loop.cursor ≡ Ok (g.I.Item.seen c.in_ok-read_item.field-0, c.read_item.new.cursor) = rw
    (c.in_ok-symbol.ensures, c.in_ok-read_item.ensures) refl in
    let lt : c.loop.counter < length c.args.cursor.now = rw (← c.left-end.ensures) c.loop-test.true in
    rw (c.in_ok-push.ensures.items, map_push) (goes_on (is_one comma) item (map g.I.Item.seen c.loop.items.items)
    (length c.args.cursor.now) c.loop.counter c.loop.cursor (g.I.Item.seen c.in_ok-read_item.field-0)
    c.read_item.new.cursor total lt begin read c.loop.invariant)
