use Rattle.std.proofs.Common.{◌≡◌, ◌-◌}
use Rattle.std.specs.Prelude.{map}
use Rattle.cyc_grammar.specs.Syntax.{read_many, is_one, after}
use Rattle.cyc_grammar.specs.Giving.{with_front}
use Rattle.heap_syntax.specs.Words.{marked}
use Rattle.fo_syntax.proofs.problems.item.more_listed.Given as goal

abbrev pub invariant-loop : goal.invariant-loop
invariant-loop g l =
    with_front (map g.I.Item.seen l.items.items) (read_many (is_one (marked l.between))
    (after (marked l.between) (g.I.Item.syntax l.item)) (l.fn.most - l.counter) l.cursor)
    ≡ with_front (map g.I.Item.seen l.fn.items.items)
    (read_many (is_one (marked l.between)) (after (marked l.between) (g.I.Item.syntax l.item))
    l.fn.most l.fn.cursor)
