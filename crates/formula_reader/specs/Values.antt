-- What a numbered problem says: predicates by their numbers in place of their names.
use Rattle.std.specs.Prelude.{List, length}
use Rattle.heap_formula.specs.declared.terms.Term.{Term}
use Rattle.heap_formula.specs.declared.terms.Term.TheVariants as terms
use Rattle.heap_formula.specs.declared.judgements.Judgement.{Judgement}
use Rattle.heap_formula.specs.declared.judgements.Judgement.TheVariants.{Term as Halting}
use Rattle.heap_formula.specs.Definitions.{Definition as DefinitionValue}
use Rattle.heap_reader.specs.Trees.{Heading}
use Rattle.heap_reader.specs.Values as values
use Rattle.heap_reader.specs.Values.{heap_value, entailment_value}
use Rattle.problem_syntax.specs.declared.numbering.tree.NumberedTerm.{NumberedTerm}
use Rattle.problem_syntax.specs.declared.numbering.tree.NumberedTerm.TheVariants.{Nil, Universal, Existential}
use Rattle.problem_syntax.specs.Numbered.{Definition, Goal, Entailment, From}

abbrev pub term_value : NumberedTerm → Term
term_value Nil = terms.Nil
term_value (Universal n primed) = terms.Univ n
term_value (Existential n primed) = terms.Exist n

abbrev pub definition_value : List Heading → Definition → DefinitionValue
definition_value hs d = values.definition_value term_value hs d.name (length d.parameters) d.cases

abbrev pub goal_value : List Heading → Goal → Judgement
goal_value hs (Entailment h ds) = entailment_value term_value hs h ds
goal_value hs (From n h) = Halting n (heap_value term_value hs h)
