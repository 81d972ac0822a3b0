use Rattle.std.proofs.Common.{◌≡◌, drop}
use Rattle.std.specs.Prelude.{map}
use Rattle.cyc_lex.specs.Writing.{write_all}
use Rattle.cyc_grammar.specs.Syntax.{words_many, fits_many}
use Rattle.heap_syntax.specs.Grammar.{spatial}
use Rattle.heap_syntax.specs.EndTrees.{end_of}
use Rattle.heap_syntax.specs.EndGrammar.{end}
use Rattle.heap_syntax.proofs.writing.ends.write_all_ends.Given as goal

abbrev pub invariant-loop-tree : goal.invariant-loop-tree
invariant-loop-tree g l =
    (write_all l.writer (words_many (end (g.F.TermForm.terms l.form) (spatial (g.F.TermForm.terms l.form)))
    (map (end_of g.F.TermForm.seen) (drop l.tree-index l.trees)))
    ≡ write_all l.fn.writer (words_many (end (g.F.TermForm.terms l.form) (spatial (g.F.TermForm.terms l.form)))
    (map (end_of g.F.TermForm.seen) l.trees)))
    × fits_many (end (g.F.TermForm.terms l.form) (spatial (g.F.TermForm.terms l.form)))
    (map (end_of g.F.TermForm.seen) (drop l.tree-index l.trees))
