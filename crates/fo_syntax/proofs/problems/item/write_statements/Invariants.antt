use Rattle.std.proofs.Common.{◌≡◌, drop}
use Rattle.std.specs.Prelude.{map}
use Rattle.cyc_lex.specs.Writing.{write_all}
use Rattle.cyc_grammar.specs.Syntax.{words_many, fits_many}
use Rattle.fo_syntax.proofs.problems.item.write_statements.Given as goal

abbrev pub invariant-loop-tree : goal.invariant-loop-tree
invariant-loop-tree g l =
    (write_all l.writer (words_many (g.I.Item.syntax l.item) (map g.I.Item.seen (drop l.tree-index l.trees)))
    ≡ write_all l.fn.writer (words_many (g.I.Item.syntax l.item) (map g.I.Item.seen l.trees)))
    × fits_many (g.I.Item.syntax l.item) (map g.I.Item.seen (drop l.tree-index l.trees))
