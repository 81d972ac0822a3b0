use Rattle.std.proofs.Common.{◌≡◌, length, refl, sym, true, ◌<◌}
use Rattle.std.specs.Prelude.{Ok}
use Rattle.std.specs.Prelude.{map}
use Rattle.std.proofs.lemmas.List.{map_push}
use Rattle.cyc_grammar.specs.Syntax.{begins, is_one, read_many}
use Rattle.cyc_grammar.specs.Giving.{with_front}
use Rattle.cyc_grammar.proofs.Loop.{goes_on}
use Rattle.problem_syntax.specs.Trees.{definition_of}
use Rattle.heap_syntax.specs.Words.{pred_word}
use Rattle.problem_syntax.specs.Grammar.{definition}
use Rattle.problem_syntax.proofs.read_definitions.more_definitions.Goals as goal

pub loop-preserved : goal.loop-preserved
loop-preserved c =
    let item = definition in
    let total = with_front (map definition_of c.args.items.items)
    (read_many (is_one pred_word) item (length c.args.cursor.now) c.args.cursor.now) in
    let begin : begins (is_one pred_word) c.loop.cursor ≡ true = sym c.if-not-is_keyword_next.ensures in
    let read : item.read c.loop.cursor ≡ Ok (definition_of c.in_ok-definition.field-0, c.definition.new.cursor) = rw
    (c.in_ok-definition.ensures) refl in
    let lt : c.loop.counter < length c.args.cursor.now = rw (← c.left-end.ensures) c.loop-test.true in
    rw (c.in_ok-push.ensures.items, map_push) (goes_on (is_one pred_word) item (map definition_of c.loop.items.items)
    (length c.args.cursor.now) c.loop.counter c.loop.cursor (definition_of c.in_ok-definition.field-0)
    c.definition.new.cursor total lt begin read c.loop.invariant)
