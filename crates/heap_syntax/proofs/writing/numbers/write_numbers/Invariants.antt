use Rattle.std.proofs.Common.{◌≡◌, drop}
use Rattle.cyc_lex.specs.Writing.{write_all}
use Rattle.cyc_grammar.specs.Syntax.{words_many, one}
use Rattle.cyc_grammar.specs.Classes.{number}
use Rattle.heap_syntax.proofs.writing.numbers.write_numbers.Given as goal

abbrev pub invariant-loop-tree : goal.invariant-loop-tree
invariant-loop-tree l =
    (write_all l.writer (words_many (one number) (drop l.tree-index l.trees))
    ≡ write_all l.fn.writer (words_many (one number) l.trees))
