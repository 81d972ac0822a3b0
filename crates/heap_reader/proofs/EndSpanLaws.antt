-- The spans of ends count the words of the grammar.
use Rattle.std.proofs.Common.{◌≡◌, ℕ, ◌+◌, Bool, true, false, List, [], ◌∷◌, length, refl, arith}
use Rattle.cyc_grammar.specs.Syntax.{Syntax, is_one}
use Rattle.heap_syntax.specs.declared.version.Version.{Version}
use Rattle.heap_syntax.specs.Trees.{Spatial}
use Rattle.heap_syntax.specs.Words.{or_word, semicolon}
use Rattle.heap_syntax.specs.Grammar.{Terms}
use Rattle.heap_syntax.specs.LineGrammar.{has_ends}
use Rattle.heap_syntax.specs.EndTrees.{End}
use Rattle.heap_syntax.specs.EndGrammar.{ends_word, end, ends_where, ends}
use Rattle.heap_reader.specs.Spans.{total, spatial_span}
use Rattle.heap_reader.specs.EndSpans.{end_span}
use Rattle.heap_reader.proofs.SpanLaws.{alone, heaps_words}

module _ {T : Type 0} (t : Terms T) (span : T → ℕ)
    (term_words : (x : T) → t.syntax.fits x → length (t.syntax.words x) + 1 ≡ span x) (atom : Syntax (Spatial T))
    (atom_words : (x : Spatial T) → atom.fits x → length (atom.words x) + 1 ≡ spatial_span span x) where
  end_words : (e : End T) → (end t atom).fits e → length ((end t atom).words e) ≡ end_span span e
  unfolding end
  end_words e f = let h = heaps_words t span term_words atom atom_words or_word semicolon e.disjuncts f.1.1 in
      omega arith

  of_version : (b : Bool) (es : List (End T)) → (ends_where b t atom).fits es
      → length ((ends_where b t atom).words es) ≡ total (end_span span) es
  of_version true es f = alone (is_one ends_word) (end t atom) (end_span span) end_words es f
  of_version false [] f = refl
  of_version false (e ∷ es) f = absurd f.0

  pub ends_words : (version : Version) (es : List (End T)) → (ends version t atom).fits es
      → length ((ends version t atom).words es) ≡ total (end_span span) es
  unfolding ends
  ends_words version es f = of_version (has_ends version) es f
