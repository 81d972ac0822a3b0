-- How many tokens terms and definitions have, the one token after a term counted in.
use Rattle.std.specs.Prelude.{ℕ, ◌+◌}
use Rattle.heap_reader.specs.Spans.{total, heap_span}
use Rattle.heap_syntax.specs.declared.definitions.tree.TermTree.{TermTree}
use Rattle.heap_syntax.specs.declared.definitions.tree.TermTree.TheVariants.{Nil, Univ, Exist}
use Rattle.heap_syntax.specs.DefinitionTrees.{Definition}

abbrev pub term_span : TermTree → ℕ
term_span Nil = 2
term_span (Univ n) = 3
term_span (Exist n) = 3

-- "pred", the name, "(", the arity, ")", "{", the cases, and ";"; nothing after it
abbrev pub definition_span : Definition → ℕ
definition_span d = 6 + total (heap_span term_span) d.cases + 1
