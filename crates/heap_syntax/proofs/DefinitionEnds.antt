-- The texts of heaps and definitions are of lexemes.
use Rattle.std.proofs.Common.{◌≡◌, ℕ, Bool, true, false, List, ◌⊎◌}
use Rattle.cyc_lex.specs.Word.{is_lexeme}
use Rattle.cyc_grammar.specs.Syntax.{Class, one, is_one}
use Rattle.cyc_grammar.specs.Classes.{number}
use Rattle.cyc_grammar.proofs.Ends.{Inner, one-inner, seq-inner, after-inner, before-inner, alt-inner, many-inner}
use Rattle.cyc_grammar.proofs.Ends.{shaped-inner, number-inner, name-inner}
use Rattle.heap_syntax.specs.Words.{nil, pred_word, semicolon, bar, opening, closing, opening_brace, closing_brace}
use Rattle.heap_syntax.specs.Words.{free_name, dollar, query, reserved}
use Rattle.heap_syntax.specs.Grammar.{Any}
use Rattle.heap_syntax.proofs.WordTexts.{nil-word, pred-word, syms}
use Rattle.heap_syntax.proofs.HeapEnds.{spatial-inner, heap-inner, heaps-inner}
use Rattle.heap_syntax.specs.DefinitionTrees.{Heap}
use Rattle.heap_syntax.specs.DefinitionGrammar.{to_term, from_term, term, to_uterm, from_uterm, IsUniversal, uterm}
use Rattle.heap_syntax.specs.DefinitionGrammar.{terms, terms_of, spatial, heap, heaps, to_definition, from_definition}
use Rattle.heap_syntax.specs.DefinitionGrammar.{cases, definition, definitions}

term-inner : Inner term
unfolding term
term-inner = shaped-inner {A = Unit {0} ⊎ (ℕ ⊎ ℕ)} to_term from_term Any _
    (alt-inner (is_one nil) (one nil) _ (one-inner nil (λ u f. nil-word))
    (alt-inner (is_one dollar) _ _ (after-inner dollar (one number) syms.dollar_word number-inner)
    (after-inner query (one number) syms.query_word number-inner)))

pub uterm-inner : Inner uterm
unfolding uterm
uterm-inner = shaped-inner {A = Unit {0} ⊎ ℕ} to_uterm from_uterm IsUniversal _
    (alt-inner (is_one nil) (one nil) _ (one-inner nil (λ u f. nil-word))
    (after-inner dollar (one number) syms.dollar_word number-inner))

pub terms-inner : (b : Bool) → Inner (terms b)
unfolding terms
terms-inner true = uterm-inner
terms-inner false = term-inner

pub spatial-of : (b : Bool) → Inner (spatial (terms b))
spatial-of b = spatial-inner (terms_of (terms b)) (terms-inner b)

pub heap-of : (b : Bool) → Inner (heap (terms b))
heap-of b = heap-inner (terms_of (terms b)) (spatial (terms b)) (terms-inner b) (spatial-of b)

pub heaps-of : (m n : Class (Unit {0})) → is_lexeme (m.word tt) ≡ true → is_lexeme (n.word tt) ≡ true
    → Inner (heaps m n)
heaps-of m n h k = heaps-inner m n (terms_of (terms false)) (spatial (terms false)) h k (terms-inner false)
    (spatial-of false)

definition-inner : Inner definition
unfolding definition cases
definition-inner = shaped-inner {A = List ℕ × (ℕ × List Heap)} to_definition from_definition Any _
    (after-inner pred_word _ pred-word (seq-inner (one free_name) _ (name-inner reserved)
    (after-inner opening _ syms.opening_word (seq-inner (one number) _ number-inner
    (after-inner closing _ syms.closing_word (after-inner opening_brace _ syms.opening_brace_word
    (before-inner _ semicolon syms.semicolon_word
    (heaps-of bar closing_brace syms.bar_word syms.closing_brace_word))))))))

pub definitions-inner : Inner definitions
unfolding definitions
definitions-inner = many-inner (is_one pred_word) definition definition-inner
