use Rattle.std.proofs.Common.{◌≡◌, ◌-◌, length}
use Rattle.std.specs.Prelude.{map}
use Rattle.cyc_grammar.specs.Syntax.{read_many, is_one}
use Rattle.cyc_grammar.specs.Giving.{with_front}
use Rattle.problem_syntax.specs.Trees.{definition_of}
use Rattle.heap_syntax.specs.Words.{pred_word}
use Rattle.problem_syntax.specs.Grammar.{definition}
use Rattle.problem_syntax.proofs.read_definitions.more_definitions.Given as goal

abbrev pub invariant-loop : goal.invariant-loop
invariant-loop l =
    with_front (map definition_of l.items.items) (read_many (is_one pred_word) definition
    (length l.fn.cursor - l.counter) l.cursor)
    ≡ with_front (map definition_of l.fn.items.items)
    (read_many (is_one pred_word) definition (length l.fn.cursor) l.fn.cursor)
