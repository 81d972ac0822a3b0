use Rattle.std.proofs.Common.{◌≡◌, drop}
use Rattle.std.specs.Prelude.{map}
use Rattle.cyc_lex.specs.Writing.{write_all}
use Rattle.cyc_grammar.specs.Syntax.{words_many, fits_many, after}
use Rattle.heap_syntax.specs.Trees.{spatial_of}
use Rattle.heap_syntax.specs.Words.{star}
use Rattle.heap_syntax.specs.Grammar.{spatial}
use Rattle.heap_syntax.proofs.writing.heaps.write_more_spatials.Given as goal

abbrev pub invariant-loop-tree : goal.invariant-loop-tree
invariant-loop-tree g l =
    (write_all l.writer (words_many (after star (spatial (g.F.TermForm.terms l.form)))
    (map (spatial_of g.F.TermForm.seen) (drop l.tree-index l.trees)))
    ≡ write_all l.fn.writer (words_many (after star (spatial (g.F.TermForm.terms l.form)))
    (map (spatial_of g.F.TermForm.seen) l.trees)))
    × fits_many (after star (spatial (g.F.TermForm.terms l.form)))
    (map (spatial_of g.F.TermForm.seen) (drop l.tree-index l.trees))
