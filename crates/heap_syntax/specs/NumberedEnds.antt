-- Ends with numbered variables: their trees and grammar.
use Rattle.std.specs.Prelude.{false, List, map}
use Rattle.cyc_grammar.specs.Syntax.{Syntax}
use Rattle.heap_syntax.specs.declared.keep.Keep.{Keep}
use Rattle.heap_syntax.specs.declared.version.Version.{Version}
use Rattle.heap_syntax.specs.declared.definitions.tree.TermTree.{TermTree}
use Rattle.heap_syntax.specs.declared.ends.tree.EndTree.{EndTree}
use Rattle.heap_syntax.specs.DefinitionTrees.{heap_of}
use Rattle.heap_syntax.specs.DefinitionGrammar.{terms, terms_of, spatial}
use Rattle.heap_syntax.specs.EndTrees as trees
use Rattle.heap_syntax.specs.EndGrammar as grammar

abbrev pub End : Type 0
End = trees.End TermTree

-- what a contract sees of the code's tree
abbrev pub end_of : EndTree TermTree → End
end_of e = record { number = e.number; disjuncts = map heap_of e.disjuncts.items }

abbrev pub end : Syntax End
end = grammar.end (terms_of (terms false)) (spatial (terms false))

-- the same, of whose lists so much is kept
abbrev pub kept_end : Keep → Syntax End
kept_end k = grammar.kept_end k (terms_of (terms false)) (spatial (terms false))

abbrev pub ends : Version → Syntax (List End)
ends version = grammar.ends version (terms_of (terms false)) (spatial (terms false))
