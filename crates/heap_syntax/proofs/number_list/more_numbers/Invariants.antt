use Rattle.std.proofs.Common.{◌≡◌, ◌-◌, length}
use Rattle.cyc_grammar.specs.Syntax.{read_many, is_one, one}
use Rattle.cyc_grammar.specs.Giving.{with_front}
use Rattle.cyc_grammar.specs.Classes.{number}
use Rattle.heap_syntax.proofs.number_list.more_numbers.Given as goal

abbrev pub invariant-loop : goal.invariant-loop
invariant-loop l =
    with_front l.items.items (read_many (is_one number) (one number) (length l.fn.cursor - l.counter) l.cursor)
    ≡ with_front l.fn.items.items (read_many (is_one number) (one number) (length l.fn.cursor) l.fn.cursor)
