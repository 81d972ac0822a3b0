-- The words of one definition are words that tokens can have.
use Rattle.std.proofs.Common.{[], ◌∷◌, sym, ap, ◌∙◌}
use Rattle.std.proofs.lemmas.List.{append-nil}
use Rattle.cyc_lex.specs.Word.{are_lexemes}
use Rattle.cyc_grammar.proofs.Ends.{Inner}
use Rattle.heap_syntax.specs.DefinitionGrammar.{definition, definitions}
use Rattle.heap_syntax.proofs.DefinitionEnds.{definitions-inner}

pub definition-inner : Inner definition
unfolding definitions
definition-inner = record {
  inner = λ d f. ap are_lexemes (sym (append-nil (definition.words d)))
      ∙ definitions-inner.inner (d ∷ []) (f, tt);
}
