-- Ends over lawful terms are lawful, their texts are of lexemes, and what is kept of an end that is read is its front.
use Rattle.std.proofs.Common.{◌≡◌, ℕ, Bool, true, false, List, [], ◌∷◌, ◌++◌, refl}
use Rattle.std.specs.Prelude.{codes}
use Rattle.cyc_lex.specs.Word.{Word}
use Rattle.cyc_lex.proofs.Letters.{letters-name}
use Rattle.cyc_grammar.specs.Syntax.{Syntax, one, after, nothing, is_one}
use Rattle.cyc_grammar.specs.Classes.{number}
use Rattle.cyc_grammar.proofs.Laws.{Lawful, Begins, one-law, seq-law, shaped-law, many-law, after-law, nothing-law}
use Rattle.cyc_grammar.proofs.Laws.{Stops-never}
use Rattle.cyc_grammar.proofs.ClassLaws.{symbol-law, keyword-law, number-law}
use Rattle.cyc_grammar.proofs.Ends.{Inner, seq-inner, after-inner, many-inner, shaped-inner, number-inner, nothing-inner}
use Rattle.heap_syntax.specs.declared.keep.Keep.{Keep}
use Rattle.heap_syntax.specs.declared.version.Version.{Version}
use Rattle.heap_syntax.specs.Words.{or_word, colon, semicolon}
use Rattle.heap_syntax.specs.LineGrammar.{has_ends}
use Rattle.heap_syntax.specs.Grammar.{Any, Terms, heap, some_heap, heaps, kept_heap}
use Rattle.heap_syntax.specs.Trees.{Spatial, Heap}
use Rattle.heap_syntax.specs.Keeping.{heaps_front}
use Rattle.heap_syntax.specs.EndTrees.{End}
use Rattle.heap_syntax.specs.EndKeeping.{end_front}
use Rattle.heap_syntax.specs.EndGrammar.{ends_word, to_end, from_end, end, kept_end, IsEmpty, to_none, from_none}
use Rattle.heap_syntax.specs.EndGrammar.{ends_where, ends}
use Rattle.heap_syntax.proofs.HeapLaws.{TermLaw, AtomLaw, heaps-law, listed-closed}
use Rattle.heap_syntax.proofs.HeapEnds.{heaps-inner}
use Rattle.heap_syntax.proofs.Fronts.{Fronts, same-front, seq-front, shaped-front, after-front, heap-front, heaps-front}
use Rattle.heap_syntax.proofs.WordTexts.{or-word, syms}

module _ {T : Type 0} (t : Terms T) (atom : Syntax (Spatial T)) where
  pub end-law : TermLaw t → AtomLaw atom → Lawful (end t atom)
  unfolding end
  end-law a b =
      shaped-law {A = ℕ × List (Heap T)} to_end from_end Any _ (λ x f. (refl, tt)) (λ e h. refl)
      (after-law ends_word _ (keyword-law _) (seq-law (one number) (after colon (heaps or_word semicolon (heap t atom)))
      (one-law number number-law) (after-law colon (heaps or_word semicolon (heap t atom)) (symbol-law _)
      (heaps-law or_word semicolon t atom (keyword-law _) (symbol-law _) refl refl refl a b))
      (λ x y r fx fy h. Stops-never ((after colon (heaps or_word semicolon (heap t atom))).words y ++ r))))

  pub end-closed : (e : End T) (d : Word) → (end t atom).more e d ≡ false
  unfolding end
  end-closed e d = listed-closed some_heap or_word semicolon (heap t atom) e.disjuncts d

  end-starts : (e : End T) → Begins (is_one ends_word) ((end t atom).words e)
  unfolding end
  end-starts e = refl

  none-law : Lawful (ends_where false t atom)
  none-law = shaped-law {A = Unit {0}} to_none from_none IsEmpty nothing (λ u f. (refl, tt)) here nothing-law
    where
      here : (es : List (End T)) → IsEmpty es → to_none (from_none es) ≡ es
      here [] h = refl
      here (e ∷ es) h = absurd h

  where-law : (b : Bool) → TermLaw t → AtomLaw atom → Lawful (ends_where b t atom)
  where-law true a b =
      many-law (is_one ends_word) (end t atom) (end-law a b)
      (record { starts = λ e f. end-starts e; apart = λ e d f h. end-closed e d })
  where-law false a b = none-law

  pub ends-law : (version : Version) → TermLaw t → AtomLaw atom → Lawful (ends version t atom)
  unfolding ends
  ends-law version a b = where-law (has_ends version) a b

  -- ends go on at the word "ends" alone
  where-end : (b : Bool) (d : Word) → is_one ends_word d ≡ false → (es : List (End T))
      → (ends_where b t atom).more es d ≡ false
  where-end true d h [] = h
  where-end true d h (e ∷ []) = rw (h, end-closed e d) refl
  where-end true d h (e ∷ g ∷ es) = where-end true d h (g ∷ es)
  where-end false d h es = refl

  pub ends-end : (version : Version) (d : Word) → is_one ends_word d ≡ false → (es : List (End T))
      → (ends version t atom).more es d ≡ false
  unfolding ends
  ends-end version d h es = where-end (has_ends version) d h es

  -- ---- the texts are of lexemes

  end-inner : Inner t.syntax → Inner atom → Inner (end t atom)
  unfolding end
  end-inner i j =
      shaped-inner {A = ℕ × List (Heap T)} to_end from_end Any _
      (after-inner ends_word _ (letters-name (codes "ends") refl) (seq-inner (one number) _ number-inner
      (after-inner colon _ syms.colon_word (heaps-inner or_word semicolon t atom or-word syms.semicolon_word i j))))

  where-inner : (b : Bool) → Inner t.syntax → Inner atom → Inner (ends_where b t atom)
  where-inner true i j = many-inner (is_one ends_word) (end t atom) (end-inner i j)
  where-inner false i j = shaped-inner {A = Unit {0}} to_none from_none IsEmpty nothing nothing-inner

  pub ends-inner : (version : Version) → Inner t.syntax → Inner atom → Inner (ends version t atom)
  unfolding ends
  ends-inner version i j = where-inner (has_ends version) i j

  -- ---- what is kept

  pub end-front : (k : Keep) → Fronts (end_front k) (end t atom) (kept_end k t atom)
  unfolding end kept_end
  end-front k =
      shaped-front {A = ℕ × List (Heap T)} {C = ℕ × List (Heap T)} (λ x. (x.0, heaps_front k x.1)) (end_front k)
      to_end from_end Any to_end from_end Any _ _ (λ x. refl)
      (after-front ends_word (λ x. (x.0, heaps_front k x.1)) _ _
      (seq-front (λ n. n) (heaps_front k) (one number) _ (one number) _ (same-front (one number))
      (after-front colon (heaps_front k) _ _
      (heaps-front k or_word semicolon (heap t atom) (kept_heap k t atom) (heap-front k t atom)))))
