use Rattle.std.proofs.Common.{◌≡◌, ◌-◌, length, sym, true, ◌<◌}
use Rattle.std.proofs.lemmas.Result.{err_from_is_err_and}
use Rattle.cyc_grammar.specs.Syntax.{begins}
use Rattle.cyc_grammar.proofs.Loop.{goes_on, ends}
use Rattle.rule_logics.specs.Grammar.{node, node_word, read_nodes}
use Rattle.rule_logics.proofs.Answered.{no_more}
use Rattle.rule_logics.proofs.texts.reading.nodes.Goals as goal

pub loop-preserved : goal.loop-preserved
loop-preserved g c =
    let x = g.T.RuleText.text c.args.texts.now in
    let begin : begins node_word c.loop.cursor ≡ true = sym c.if-not-is_keyword_next.ensures in
    let lt : c.loop.counter < length c.args.cursor.now = rw (← c.left-end.ensures) c.loop-test.true in
    rw (c.in_ok-push.ensures.items) (goes_on node_word (node x) c.loop.items.items (length c.args.cursor.now)
    c.loop.counter c.loop.cursor c.in_ok-node.field-0 c.node.new.cursor (read_nodes x c.args.cursor.now)
    lt begin c.in_ok-node.ensures c.loop.invariant)

pub returns-then-not-is_keyword_next : goal.returns-then-not-is_keyword_next
returns-then-not-is_keyword_next g c =
    let x = g.T.RuleText.text c.args.texts.now in
    no_more node_word (node x) c.loop.items.items (length c.args.cursor.now - c.loop.counter) c.loop.cursor
    (read_nodes x c.args.cursor.now) (sym c.if-not-is_keyword_next.ensures) c.loop.invariant

pub returns-in_err-node : goal.returns-in_err-node
returns-in_err-node g c =
    let x = g.T.RuleText.text c.args.texts.now in
    let lt : c.loop.counter < length c.args.cursor.now = rw (← c.left-end.ensures) c.loop-test.true in
    let p = err_from_is_err_and c.from_residual.result c.from_residual.ensures.1 in
    rw (p.1, p.2) (ends node_word (node x) c.in_err-node.field-0.0 c.loop.items.items (length c.args.cursor.now)
    c.loop.counter c.loop.cursor (read_nodes x c.args.cursor.now) lt (sym c.if-not-is_keyword_next.ensures)
    c.in_err-node.ensures c.loop.invariant)

pub returns : goal.returns
returns g c =
    let x = g.T.RuleText.text c.args.texts.now in
    no_more node_word (node x) c.loop.items.items (length c.args.cursor.now - c.loop.counter) c.loop.cursor
    (read_nodes x c.args.cursor.now) (sym c.if-is_keyword_next.ensures) c.loop.invariant
