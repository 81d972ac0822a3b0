use Rattle.std.proofs.Common.{◌≡◌, length, refl, sym, true, ◌<◌}
use Rattle.std.specs.Prelude.{Ok}
use Rattle.cyc_grammar.specs.Syntax.{begins, is_one, read_many, after}
use Rattle.cyc_grammar.specs.Giving.{with_front}
use Rattle.cyc_grammar.proofs.Loop.{goes_on}
use Rattle.proof_syntax.specs.Grammar.{pair, comma}
use Rattle.proof_syntax.proofs.read_reasons.more_pairs.Goals as goal

pub loop-preserved : goal.loop-preserved
loop-preserved c =
    let item = (after comma pair) in
    let total = with_front c.args.items.items (read_many (is_one comma) item (length c.args.cursor.now)
    c.args.cursor.now) in
    let begin : begins (is_one comma) c.loop.cursor ≡ true = sym c.if-not-is_symbol_next.ensures in
    let read : item.read c.loop.cursor ≡ Ok (c.in_ok-pair.field-0, c.pair.new.cursor) = rw
    (c.in_ok-symbol.ensures, c.in_ok-pair.ensures) refl in
    let lt : c.loop.counter < length c.args.cursor.now = rw (← c.left-end.ensures) c.loop-test.true in
    rw (c.in_ok-push.ensures.items) (goes_on (is_one comma) item c.loop.items.items (length c.args.cursor.now)
    c.loop.counter c.loop.cursor c.in_ok-pair.field-0 c.pair.new.cursor total lt begin read c.loop.invariant)
