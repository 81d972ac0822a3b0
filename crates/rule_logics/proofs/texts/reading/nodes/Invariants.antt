use Rattle.std.proofs.Common.{◌≡◌, ◌-◌, length}
use Rattle.cyc_grammar.specs.Syntax.{read_many}
use Rattle.cyc_grammar.specs.Giving.{with_front}
use Rattle.rule_logics.specs.Grammar.{node, node_word, read_nodes}
use Rattle.rule_logics.proofs.texts.reading.nodes.Given as goal

abbrev pub invariant-loop : goal.invariant-loop
invariant-loop g l =
    let x = g.T.RuleText.text l.texts in with_front l.items.items
    (read_many node_word (node x) (length l.fn.cursor - l.counter) l.cursor) ≡ read_nodes x l.fn.cursor
