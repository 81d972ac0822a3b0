use Rattle.std.proofs.Common.{◌≡◌, drop}
use Rattle.cyc_lex.specs.Writing.{write_all}
use Rattle.cyc_grammar.specs.Syntax.{words_many, one, after}
use Rattle.cyc_grammar.specs.Classes.{number}
use Rattle.heap_syntax.specs.Words.{comma}
use Rattle.model_file.proofs.syntax.numbers.write_more_numbers.Given as goal

abbrev pub invariant-loop-tree : goal.invariant-loop-tree
invariant-loop-tree l =
    (write_all l.writer (words_many (after comma (one number)) (drop l.tree-index l.trees))
    ≡ write_all l.fn.writer (words_many (after comma (one number)) l.trees))
