use Rattle.std.proofs.Common.{◌≡◌, length, refl, sym, true, ◌<◌}
use Rattle.std.specs.Prelude.{Ok, map}
use Rattle.std.proofs.lemmas.List.{map_push}
use Rattle.cyc_grammar.specs.Syntax.{begins, is_one, read_many, after}
use Rattle.cyc_grammar.specs.Giving.{with_front}
use Rattle.cyc_grammar.proofs.Loop.{goes_on}
use Rattle.heap_syntax.specs.Words.{comma}
use Rattle.model_file.specs.Trees.{cell_of}
use Rattle.model_file.specs.Grammar.{cell}
use Rattle.model_file.proofs.syntax.cell_list.more_cells.Goals as goal

pub loop-preserved : goal.loop-preserved
loop-preserved c =
    let item = after comma cell in
    let total = with_front (map cell_of c.args.items.items)
    (read_many (is_one comma) item (length c.args.cursor.now) c.args.cursor.now) in
    let begin : begins (is_one comma) c.loop.cursor ≡ true = sym c.if-not-is_symbol_next.ensures in
    let read : item.read c.loop.cursor ≡ Ok (cell_of c.in_ok-cell.field-0, c.cell.new.cursor) = rw
    (c.in_ok-symbol.ensures, c.in_ok-cell.ensures) refl in
    let lt : c.loop.counter < length c.args.cursor.now = rw (← c.left-end.ensures) c.loop-test.true in
    rw (c.in_ok-push.ensures.items, map_push) (goes_on (is_one comma) item (map cell_of c.loop.items.items)
    (length c.args.cursor.now) c.loop.counter c.loop.cursor (cell_of c.in_ok-cell.field-0)
    c.cell.new.cursor total lt begin read c.loop.invariant)
