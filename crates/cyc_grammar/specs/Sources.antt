-- Where a cursor's words come from.
use Rattle.std.specs.Prelude.{List}
use Rattle.cyc_lex.specs.Word.{Word}
use Rattle.cyc_grammar.specs.declared.cursor.Source.{Source}
use Rattle.cyc_grammar.specs.declared.cursor.Source.TheVariants as sources

-- the words that are left
abbrev pub left_in : Source → List Word
left_in (sources.Listed tokens) = tokens
left_in (sources.Text tokens) = tokens
