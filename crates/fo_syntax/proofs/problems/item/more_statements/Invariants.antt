use Rattle.std.proofs.Common.{◌≡◌, ◌-◌, length}
use Rattle.std.specs.Prelude.{map}
use Rattle.cyc_grammar.specs.Syntax.{read_many, is_one}
use Rattle.cyc_grammar.specs.Classes.{keyword}
use Rattle.cyc_grammar.specs.Giving.{with_front}
use Rattle.fo_syntax.proofs.problems.item.more_statements.Given as goal

abbrev pub invariant-loop : goal.invariant-loop
invariant-loop g l =
    with_front (map g.I.Item.seen l.items.items) (read_many (is_one (keyword l.word)) (g.I.Item.syntax l.item)
    (length l.fn.cursor - l.counter) l.cursor)
    ≡ with_front (map g.I.Item.seen l.fn.items.items)
    (read_many (is_one (keyword l.word)) (g.I.Item.syntax l.item) (length l.fn.cursor) l.fn.cursor)
