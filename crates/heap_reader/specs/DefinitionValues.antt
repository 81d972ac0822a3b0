-- What terms and definitions say: predicates by their numbers in place of their names.
use Rattle.std.specs.Prelude.{List}
use Rattle.heap_formula.specs.declared.terms.Term.{Term}
use Rattle.heap_formula.specs.declared.terms.Term.TheVariants as terms
use Rattle.heap_formula.specs.Definitions.{Definition as DefinitionValue}
use Rattle.heap_reader.specs.Trees.{Heading}
use Rattle.heap_reader.specs.Values as values
use Rattle.heap_syntax.specs.declared.definitions.tree.TermTree.{TermTree}
use Rattle.heap_syntax.specs.declared.definitions.tree.TermTree.TheVariants.{Nil, Univ, Exist}
use Rattle.heap_syntax.specs.DefinitionTrees.{Definition}

abbrev pub term_value : TermTree → Term
term_value Nil = terms.Nil
term_value (Univ n) = terms.Univ n
term_value (Exist n) = terms.Exist n

abbrev pub definition_value : List Heading → Definition → DefinitionValue
definition_value hs d = values.definition_value term_value hs d.name d.arity d.cases
