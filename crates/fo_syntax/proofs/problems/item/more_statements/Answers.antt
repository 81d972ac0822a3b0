use Rattle.std.proofs.Common.{◌≡◌, ◌-◌, length, sym, true, ◌<◌}
use Rattle.std.specs.Prelude.{Ok, map}
use Rattle.std.proofs.lemmas.List.{map_push}
use Rattle.cyc_grammar.specs.Syntax.{begins, is_one, read_many}
use Rattle.cyc_grammar.specs.Classes.{keyword}
use Rattle.cyc_grammar.specs.Giving.{with_front}
use Rattle.cyc_grammar.proofs.Loop.{goes_on}
use Rattle.heap_syntax.proofs.Loops.{stops}
use Rattle.fo_syntax.proofs.problems.item.more_statements.Goals as goal

pub loop-preserved : goal.loop-preserved
loop-preserved g c =
    let item = g.I.Item.syntax c.args.item.now in
    let total = with_front (map g.I.Item.seen c.args.items.items)
    (read_many (is_one (keyword c.args.word.now)) item (length c.args.cursor.now) c.args.cursor.now) in
    let begin : begins (is_one (keyword c.args.word.now)) c.loop.cursor ≡ true = sym c.if-not-is_keyword_next.ensures in
    let read : item.read c.loop.cursor ≡ Ok (g.I.Item.seen c.in_ok-read_item.field-0, c.read_item.new.cursor)
    = c.in_ok-read_item.ensures in
    let lt : c.loop.counter < length c.args.cursor.now = rw (← c.left-end.ensures) c.loop-test.true in
    rw (c.in_ok-push.ensures.items, map_push) (goes_on (is_one (keyword c.args.word.now)) item
    (map g.I.Item.seen c.loop.items.items) (length c.args.cursor.now) c.loop.counter c.loop.cursor
    (g.I.Item.seen c.in_ok-read_item.field-0) c.read_item.new.cursor total lt begin read c.loop.invariant)

pub returns-then-not-is_keyword_next : goal.returns-then-not-is_keyword_next
returns-then-not-is_keyword_next g c = stops (is_one (keyword c.args.word.now)) (g.I.Item.syntax c.args.item.now)
    (map g.I.Item.seen c.loop.items.items) (length c.args.cursor.now - c.loop.counter) c.loop.cursor
    (with_front (map g.I.Item.seen c.args.items.items) (read_many (is_one (keyword c.args.word.now))
    (g.I.Item.syntax c.args.item.now) (length c.args.cursor.now) c.args.cursor.now))
    (sym c.if-not-is_keyword_next.ensures) c.loop.invariant
