use Rattle.std.proofs.Common.{◌≡◌, ◌-◌, length}
use Rattle.cyc_grammar.specs.Syntax.{read_many, is_one, one, after}
use Rattle.cyc_grammar.specs.Classes.{number}
use Rattle.cyc_grammar.specs.Giving.{with_front}
use Rattle.heap_syntax.specs.Words.{comma}
use Rattle.model_file.proofs.syntax.numbers.more_numbers.Given as goal

abbrev pub invariant-loop : goal.invariant-loop
invariant-loop l =
    with_front l.items.items (read_many (is_one comma) (after comma (one number)) (length l.fn.cursor - l.counter)
    l.cursor)
    ≡ with_front l.fn.items.items (read_many (is_one comma) (after comma (one number)) (length l.fn.cursor) l.fn.cursor)
