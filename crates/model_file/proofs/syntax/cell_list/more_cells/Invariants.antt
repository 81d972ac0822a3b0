use Rattle.std.proofs.Common.{◌≡◌, ◌-◌, length}
use Rattle.std.specs.Prelude.{map}
use Rattle.cyc_grammar.specs.Syntax.{read_many, is_one, after}
use Rattle.cyc_grammar.specs.Giving.{with_front}
use Rattle.heap_syntax.specs.Words.{comma}
use Rattle.model_file.specs.Trees.{cell_of}
use Rattle.model_file.specs.Grammar.{cell}
use Rattle.model_file.proofs.syntax.cell_list.more_cells.Given as goal

abbrev pub invariant-loop : goal.invariant-loop
invariant-loop l =
    with_front (map cell_of l.items.items) (read_many (is_one comma) (after comma cell) (length l.fn.cursor - l.counter)
    l.cursor)
    ≡ with_front (map cell_of l.fn.items.items) (read_many (is_one comma) (after comma cell) (length l.fn.cursor)
    l.fn.cursor)
