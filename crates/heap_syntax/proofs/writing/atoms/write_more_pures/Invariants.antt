use Rattle.std.proofs.Common.{◌≡◌, drop}
use Rattle.std.specs.Prelude.{map}
use Rattle.cyc_lex.specs.Writing.{write_all}
use Rattle.cyc_grammar.specs.Syntax.{words_many, fits_many, after}
use Rattle.heap_syntax.specs.Words.{comma}
use Rattle.heap_syntax.specs.Trees.{pure_of}
use Rattle.heap_syntax.specs.Grammar.{pure}
use Rattle.heap_syntax.proofs.writing.atoms.write_more_pures.Given as goal

abbrev pub invariant-loop-tree : goal.invariant-loop-tree
invariant-loop-tree g l =
    (write_all l.writer (words_many (after comma (pure (g.F.TermForm.terms l.form).syntax))
    (map (pure_of g.F.TermForm.seen) (drop l.tree-index l.trees)))
    ≡ write_all l.fn.writer (words_many (after comma (pure (g.F.TermForm.terms l.form).syntax))
    (map (pure_of g.F.TermForm.seen) l.trees)))
    × fits_many (after comma (pure (g.F.TermForm.terms l.form).syntax))
    (map (pure_of g.F.TermForm.seen) (drop l.tree-index l.trees))
