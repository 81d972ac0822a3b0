use Rattle.std.proofs.Common.{◌≡◌, drop}
use Rattle.std.specs.Prelude.{map}
use Rattle.cyc_lex.specs.Writing.{write_all}
use Rattle.cyc_grammar.specs.Syntax.{words_many, fits_many}
use Rattle.heap_syntax.specs.DefinitionTrees.{definition_of}
use Rattle.heap_syntax.specs.DefinitionGrammar.{definition}
use Rattle.heap_syntax.proofs.writing.definitions.write_definitions.Given as goal

abbrev pub invariant-loop-tree : goal.invariant-loop-tree
invariant-loop-tree l =
    (write_all l.writer (words_many definition (map definition_of (drop l.tree-index l.trees)))
    ≡ write_all l.fn.writer (words_many definition (map definition_of l.trees)))
    × fits_many definition (map definition_of (drop l.tree-index l.trees))
