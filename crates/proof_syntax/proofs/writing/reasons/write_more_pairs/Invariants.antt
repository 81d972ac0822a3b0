use Rattle.std.proofs.Common.{◌≡◌, drop}
use Rattle.cyc_lex.specs.Writing.{write_all}
use Rattle.cyc_grammar.specs.Syntax.{words_many, fits_many, after}
use Rattle.proof_syntax.specs.Grammar.{pair, comma}
use Rattle.proof_syntax.proofs.writing.reasons.write_more_pairs.Given as goal

abbrev pub invariant-loop-tree : goal.invariant-loop-tree
invariant-loop-tree l =
    (write_all l.writer (words_many (after comma pair) (drop l.tree-index l.trees))
    ≡ write_all l.fn.writer (words_many (after comma pair) l.trees))
    × fits_many (after comma pair) (drop l.tree-index l.trees)
