use Rattle.std.proofs.Common.{◌≡◌, drop}
use Rattle.std.specs.Prelude.{map}
use Rattle.cyc_lex.specs.Writing.{write_all}
use Rattle.cyc_grammar.specs.Syntax.{words_many, fits_many, after}
use Rattle.heap_syntax.specs.Words.{comma}
use Rattle.model_file.specs.Trees.{cell_of}
use Rattle.model_file.specs.Grammar.{cell}
use Rattle.model_file.proofs.syntax.cell_list.write_more_cells.Given as goal

abbrev pub invariant-loop-tree : goal.invariant-loop-tree
invariant-loop-tree l =
    (write_all l.writer (words_many (after comma cell) (map cell_of (drop l.tree-index l.trees)))
    ≡ write_all l.fn.writer (words_many (after comma cell) (map cell_of l.trees)))
    × fits_many (after comma cell) (map cell_of (drop l.tree-index l.trees))
