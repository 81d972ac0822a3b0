use Rattle.std.proofs.Common.{◌≡◌, ◌-◌, length}
use Rattle.std.specs.Prelude.{map}
use Rattle.cyc_grammar.specs.Syntax.{read_many, is_one, after}
use Rattle.cyc_grammar.specs.Giving.{with_front}
use Rattle.heap_syntax.specs.Words.{comma}
use Rattle.run_file.proofs.lists.more_listed.Given as goal

abbrev pub invariant-loop : goal.invariant-loop
invariant-loop g l =
    with_front (map g.I.Item.seen l.items.items) (read_many (is_one comma) (after comma (g.I.Item.syntax l.item))
    (length l.fn.cursor - l.counter) l.cursor)
    ≡ with_front (map g.I.Item.seen l.fn.items.items)
    (read_many (is_one comma) (after comma (g.I.Item.syntax l.item)) (length l.fn.cursor) l.fn.cursor)
