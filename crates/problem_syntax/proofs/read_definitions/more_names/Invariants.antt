use Rattle.std.proofs.Common.{◌≡◌, ◌-◌, length}
use Rattle.std.specs.Prelude.{map}
use Rattle.cyc_grammar.specs.Syntax.{read_many, is_one, after, one}
use Rattle.cyc_grammar.specs.Giving.{with_front}
use Rattle.heap_syntax.specs.Words.{comma, free_name}
use Rattle.problem_syntax.specs.Trees.{text_of}
use Rattle.problem_syntax.proofs.read_definitions.more_names.Given as goal

abbrev pub invariant-loop : goal.invariant-loop
invariant-loop l =
    with_front (map text_of l.items.items) (read_many (is_one comma) (after comma (one free_name))
    (length l.fn.cursor - l.counter) l.cursor)
    ≡ with_front (map text_of l.fn.items.items) (read_many (is_one comma) (after comma (one free_name))
    (length l.fn.cursor) l.fn.cursor)
