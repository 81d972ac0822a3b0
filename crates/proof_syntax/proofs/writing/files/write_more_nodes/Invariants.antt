use Rattle.std.proofs.Common.{◌≡◌, drop}
use Rattle.std.specs.Prelude.{map}
use Rattle.cyc_lex.specs.Writing.{write_all}
use Rattle.cyc_grammar.specs.Syntax.{words_many, fits_many}
use Rattle.proof_syntax.specs.Trees.{node_of}
use Rattle.proof_syntax.specs.Grammar.{node}
use Rattle.proof_syntax.proofs.writing.files.write_more_nodes.Given as goal

abbrev pub invariant-loop-tree : goal.invariant-loop-tree
invariant-loop-tree l =
    (write_all l.writer (words_many node (map node_of (drop l.tree-index l.trees)))
    ≡ write_all l.fn.writer (words_many node (map node_of l.trees)))
    × fits_many node (map node_of (drop l.tree-index l.trees))
