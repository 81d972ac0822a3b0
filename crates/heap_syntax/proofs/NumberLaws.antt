-- The grammar of numbers and premises is lawful, and their texts are of lexemes.
use Rattle.std.proofs.Common.{◌≡◌, ℕ, false, List, [], ◌∷◌, ◌++◌, refl, inl, inr, ◌⊎◌}
use Rattle.cyc_lex.specs.Word.{Word}
use Rattle.cyc_grammar.specs.Syntax.{one, seq, after, before, is_one}
use Rattle.cyc_grammar.specs.Classes.{number}
use Rattle.cyc_grammar.proofs.Laws.{Lawful, one-law, seq-law, shaped-law, alt-law, many-law, after-law, before-law}
use Rattle.cyc_grammar.proofs.Laws.{Stops-never}
use Rattle.cyc_grammar.proofs.ClassLaws.{symbol-law, keyword-law, number-law}
use Rattle.cyc_grammar.proofs.Ends.{Inner, one-inner, seq-inner, after-inner, before-inner, alt-inner, many-inner}
use Rattle.cyc_grammar.proofs.Ends.{shaped-inner, number-inner}
use Rattle.heap_syntax.specs.Words.{to_word, semicolon, opening_bracket, closing_bracket}
use Rattle.heap_syntax.specs.Grammar.{Any}
use Rattle.heap_syntax.specs.Numbers.{numbers, bracketed, two_numbers, to_premises, from_premises, premises}
use Rattle.heap_syntax.proofs.WordTexts.{to-word, syms}

-- ---- numbers

numbers-law : Lawful numbers
unfolding numbers
numbers-law = many-law (is_one number) (one number) (one-law number number-law)
    (record { starts = λ n f. rw (number-law.value n f) refl; apart = λ n d f h. refl })

numbers-end : (d : Word) → is_one number d ≡ false → (ns : List ℕ) → numbers.fits ns → numbers.more ns d ≡ false
unfolding numbers
numbers-end d h [] f = h
numbers-end d h (n ∷ []) f = rw h refl
numbers-end d h (n ∷ m ∷ ns) f = numbers-end d h (m ∷ ns) f.1

numbers-inner : Inner numbers
unfolding numbers
numbers-inner = many-inner (is_one number) (one number) number-inner

pub bracketed-law : Lawful bracketed
unfolding bracketed
bracketed-law = after-law opening_bracket _ (symbol-law _)
    (before-law numbers closing_bracket (symbol-law _) numbers-law
    (λ ns f. numbers-end (closing_bracket.word tt) refl ns f))

pub bracketed-closed : (ns : List ℕ) (d : Word) → bracketed.more ns d ≡ false
unfolding bracketed
bracketed-closed ns d = refl

pub bracketed-inner : Inner bracketed
unfolding bracketed
bracketed-inner = after-inner opening_bracket _ syms.opening_bracket_word
    (before-inner numbers closing_bracket syms.closing_bracket_word numbers-inner)

pub two_numbers-law : Lawful two_numbers
unfolding two_numbers
two_numbers-law = seq-law (one number) (one number) (one-law number number-law) (one-law number number-law)
    (λ x y r fx fy h. Stops-never ((one number).words y ++ r))

pub two_numbers-inner : Inner two_numbers
unfolding two_numbers
two_numbers-inner = seq-inner (one number) (one number) number-inner number-inner

-- ---- premises

pub premises-law : Lawful premises
unfolding premises
premises-law =
    shaped-law {A = (ℕ × List ℕ) ⊎ Unit {0}} to_premises from_premises Any _ (λ x f. (there x, tt)) (λ ns h. here ns)
    (alt-law (is_one to_word) (after to_word (seq (one number) (before numbers semicolon))) (one semicolon)
    (λ x f. refl) (λ u f. refl)
    (after-law to_word (seq (one number) (before numbers semicolon)) (keyword-law _)
    (seq-law (one number) (before numbers semicolon) (one-law number number-law)
    (before-law numbers semicolon (symbol-law _) numbers-law (λ ns f. numbers-end (semicolon.word tt) refl ns f))
    (λ n ns r fn fns h. Stops-never ((before numbers semicolon).words ns ++ r))))
    (one-law semicolon (symbol-law _)))
  where
    there : (x : (ℕ × List ℕ) ⊎ Unit {0}) → from_premises (to_premises x) ≡ x
    there (inl p) = refl
    there (inr u) = refl

    here : (ns : List ℕ) → to_premises (from_premises ns) ≡ ns
    here [] = refl
    here (n ∷ ns) = refl

pub premises-closed : (ns : List ℕ) (d : Word) → premises.more ns d ≡ false
unfolding premises
premises-closed [] d = refl
premises-closed (n ∷ ns) d = refl

pub premises-inner : Inner premises
unfolding premises
premises-inner = shaped-inner {A = (ℕ × List ℕ) ⊎ Unit {0}} to_premises from_premises Any _
    (alt-inner (is_one to_word) _ _ (after-inner to_word _ to-word
    (seq-inner (one number) _ number-inner (before-inner numbers semicolon syms.semicolon_word numbers-inner)))
    (one-inner semicolon (λ u f. syms.semicolon_word)))
