-- Ends that have a text in some version have the same in each that has ends.
use Rattle.std.proofs.Common.{◌≡◌, Bool, true, false, List, [], ◌∷◌, refl}
use Rattle.cyc_grammar.specs.Syntax.{Syntax, words_many, fits_many}
use Rattle.heap_syntax.specs.declared.version.Version.{Version}
use Rattle.heap_syntax.specs.LineGrammar.{has_ends}
use Rattle.heap_syntax.specs.Grammar.{Terms}
use Rattle.heap_syntax.specs.Trees.{Spatial}
use Rattle.heap_syntax.specs.EndTrees.{End}
use Rattle.heap_syntax.specs.EndGrammar.{end, ends_where, ends}

module _ {T : Type 0} (t : Terms T) (atom : Syntax (Spatial T)) where
  where-fit : (b : Bool) (es : List (End T)) → (ends_where b t atom).fits es → fits_many (end t atom) es
  where-fit true es f = f
  where-fit false [] f = tt
  where-fit false (e ∷ es) f = absurd f.0

  where-words : (b : Bool) (es : List (End T)) → (ends_where b t atom).fits es
      → (ends_where b t atom).words es ≡ words_many (end t atom) es
  where-words true es f = refl
  where-words false [] f = refl
  where-words false (e ∷ es) f = absurd f.0

  pub ends_fit : (version : Version) (es : List (End T)) → (ends version t atom).fits es → fits_many (end t atom) es
  unfolding ends
  ends_fit version es f = where-fit (has_ends version) es f

  pub ends_words : (version : Version) (es : List (End T)) → (ends version t atom).fits es
      → (ends version t atom).words es ≡ words_many (end t atom) es
  unfolding ends
  ends_words version es f = where-words (has_ends version) es f
