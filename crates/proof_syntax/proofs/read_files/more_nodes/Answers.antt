use Rattle.std.proofs.Common.{◌≡◌, length, refl, sym, true, ◌<◌}
use Rattle.std.specs.Prelude.{Ok}
use Rattle.std.specs.Prelude.{map}
use Rattle.std.proofs.lemmas.List.{map_push}
use Rattle.cyc_grammar.specs.Syntax.{begins, is_one, read_many}
use Rattle.cyc_grammar.specs.Giving.{with_front}
use Rattle.cyc_grammar.proofs.Loop.{goes_on}
use Rattle.proof_syntax.specs.Trees.{node_of}
use Rattle.proof_syntax.specs.Grammar.{node, node_word}
use Rattle.proof_syntax.proofs.read_files.more_nodes.Goals as goal

pub loop-preserved : goal.loop-preserved
loop-preserved c =
    let item = node in
    let total = with_front (map node_of c.args.items.items)
    (read_many (is_one node_word) item (length c.args.cursor.now) c.args.cursor.now) in
    let begin : begins (is_one node_word) c.loop.cursor ≡ true = sym c.if-not-is_keyword_next.ensures in
    let read : item.read c.loop.cursor ≡ Ok (node_of c.in_ok-node.field-0, c.node.new.cursor) = rw
    (c.in_ok-node.ensures) refl in
    let lt : c.loop.counter < length c.args.cursor.now = rw (← c.left-end.ensures) c.loop-test.true in
    rw (c.in_ok-push.ensures.items, map_push) (goes_on (is_one node_word) item (map node_of c.loop.items.items)
    (length c.args.cursor.now) c.loop.counter c.loop.cursor (node_of c.in_ok-node.field-0)
    c.node.new.cursor total lt begin read c.loop.invariant)
