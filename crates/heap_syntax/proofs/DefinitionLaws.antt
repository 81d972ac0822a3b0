-- Heaps and definitions are lawful: what is read is spelled so, what is spelled is read, and a fault is exact.
use Rattle.std.proofs.Common.{◌≡◌, ℕ, Bool, true, false, List, [], ◌∷◌, ◌++◌, refl, inl, inr, ◌⊎◌}
use Rattle.cyc_lex.specs.Word.{Word}
use Rattle.cyc_grammar.specs.Syntax.{one, seq, alt, after, before, is_one}
use Rattle.cyc_grammar.specs.Classes.{number}
use Rattle.cyc_grammar.proofs.Laws.{Lawful, Begins, BeginsNot, ClassLaw, one-law, seq-law, shaped-law, alt-law}
use Rattle.cyc_grammar.proofs.Laws.{many-law, after-law, before-law, Stops-never}
use Rattle.cyc_grammar.proofs.ClassLaws.{symbol-law, keyword-law, number-law}
use Rattle.heap_syntax.specs.declared.definitions.tree.TermTree.{TermTree}
use Rattle.heap_syntax.specs.declared.definitions.tree.TermTree.TheVariants.{Nil, Univ, Exist}
use Rattle.heap_syntax.specs.DefinitionTrees.{Heap, Definition}
use Rattle.heap_syntax.specs.Words.{nil, true_word, emp, pred_word, semicolon, star, bar, opening, closing}
use Rattle.heap_syntax.specs.Words.{opening_brace, closing_brace, free_name, dollar, query}
use Rattle.heap_syntax.specs.Grammar.{Any, some_heap}
use Rattle.heap_syntax.proofs.HeapLaws.{TermLaw, AtomLaw, Nameless, listed-closed, spatial-all, heap-law, heap-end}
use Rattle.heap_syntax.proofs.HeapLaws.{heaps-law, free_name-law, nil-no-name}
use Rattle.heap_syntax.specs.DefinitionGrammar.{to_term, from_term, term, to_uterm, from_uterm, IsUniversal, uterm}
use Rattle.heap_syntax.specs.DefinitionGrammar.{terms, terms_of, spatial, heap, to_definition, from_definition, cases}
use Rattle.heap_syntax.specs.DefinitionGrammar.{definition, definitions}

-- ---- terms

nil-law : ClassLaw nil
nil-law = keyword-law _

term-back : (x : Unit {0} ⊎ (ℕ ⊎ ℕ)) → from_term (to_term x) ≡ x
term-back (inl u) = refl
term-back (inr (inl n)) = refl
term-back (inr (inr n)) = refl

term-here : (t : TermTree) → to_term (from_term t) ≡ t
term-here Nil = refl
term-here (Univ n) = refl
term-here (Exist n) = refl

term-law : Lawful term
unfolding term
term-law =
    shaped-law {A = Unit {0} ⊎ (ℕ ⊎ ℕ)} to_term from_term Any _ (λ x f. (term-back x, tt)) (λ t h. term-here t)
    (alt-law (is_one nil) (one nil) _ (λ u f. refl) (λ y f. second y) (one-law nil nil-law)
    (alt-law (is_one dollar) (after dollar (one number)) (after query (one number)) (λ n f. refl) (λ n f. refl)
    (after-law dollar (one number) (symbol-law _) (one-law number number-law))
    (after-law query (one number) (symbol-law _) (one-law number number-law))))
  where
    second : (y : ℕ ⊎ ℕ) → BeginsNot (is_one nil) ((alt (is_one dollar) (after dollar (one number))
        (after query (one number))).words y)
    second (inl n) = refl
    second (inr n) = refl

uterm-back : (x : Unit {0} ⊎ ℕ) → (from_uterm (to_uterm x) ≡ x) × IsUniversal (to_uterm x)
uterm-back (inl u) = (refl, tt)
uterm-back (inr n) = (refl, tt)

uterm-here : (t : TermTree) → IsUniversal t → to_uterm (from_uterm t) ≡ t
uterm-here Nil h = refl
uterm-here (Univ n) h = refl
uterm-here (Exist n) h = absurd h

pub uterm-law : Lawful uterm
unfolding uterm
uterm-law =
    shaped-law {A = Unit {0} ⊎ ℕ} to_uterm from_uterm IsUniversal _ (λ x f. uterm-back x) uterm-here
    (alt-law (is_one nil) (one nil) (after dollar (one number)) (λ u f. refl) (λ n f. refl) (one-law nil nil-law)
    (after-law dollar (one number) (symbol-law _) (one-law number number-law)))

term-all : TermLaw (terms_of term)
unfolding term
term-all = record { law = term-law; closed = λ x d f h. closed x d; not_true = not_true; not_closing = not_closing }
  where
    closed : (x : TermTree) (d : Word) → term.more x d ≡ false
    closed Nil d = refl
    closed (Univ n) d = refl
    closed (Exist n) d = refl

    not_true : (x : TermTree) → term.fits x → BeginsNot (is_one true_word) (term.words x)
    not_true Nil f = refl
    not_true (Univ n) f = refl
    not_true (Exist n) f = refl

    not_closing : (x : TermTree) → term.fits x → BeginsNot (is_one closing) (term.words x)
    not_closing Nil f = refl
    not_closing (Univ n) f = refl
    not_closing (Exist n) f = refl

term-nameless : Nameless (terms_of term)
unfolding term
term-nameless = record { not_emp = not_emp; not_name = not_name }
  where
    not_emp : (x : TermTree) → term.fits x → BeginsNot (is_one emp) (term.words x)
    not_emp Nil f = refl
    not_emp (Univ n) f = refl
    not_emp (Exist n) f = refl

    not_name : (x : TermTree) → term.fits x → BeginsNot (is_one free_name) (term.words x)
    not_name Nil f = nil-no-name
    not_name (Univ n) f = refl
    not_name (Exist n) f = refl

pub uterm-closed : (x : TermTree) (d : Word) → uterm.fits x → uterm.more x d ≡ false
unfolding uterm
uterm-closed Nil d f = refl
uterm-closed (Univ n) d f = refl
uterm-closed (Exist n) d f = refl

uterm-all : TermLaw (terms_of uterm)
unfolding uterm
uterm-all = record {
  law = uterm-law;
  closed = λ x d f h. uterm-closed x d f;
  not_true = not_true;
  not_closing = not_closing;
}
  where
    not_true : (x : TermTree) → uterm.fits x → BeginsNot (is_one true_word) (uterm.words x)
    not_true Nil f = refl
    not_true (Univ n) f = refl
    not_true (Exist n) f = refl

    not_closing : (x : TermTree) → uterm.fits x → BeginsNot (is_one closing) (uterm.words x)
    not_closing Nil f = refl
    not_closing (Univ n) f = refl
    not_closing (Exist n) f = refl

uterm-nameless : Nameless (terms_of uterm)
unfolding uterm
uterm-nameless = record { not_emp = not_emp; not_name = not_name }
  where
    not_emp : (x : TermTree) → uterm.fits x → BeginsNot (is_one emp) (uterm.words x)
    not_emp Nil f = refl
    not_emp (Univ n) f = refl
    not_emp (Exist n) f = refl

    not_name : (x : TermTree) → uterm.fits x → BeginsNot (is_one free_name) (uterm.words x)
    not_name Nil f = nil-no-name
    not_name (Univ n) f = refl
    not_name (Exist n) f = nil-no-name

pub terms-all : (b : Bool) → TermLaw (terms_of (terms b))
unfolding terms
terms-all true = uterm-all
terms-all false = term-all

terms-nameless : (b : Bool) → Nameless (terms_of (terms b))
unfolding terms
terms-nameless true = uterm-nameless
terms-nameless false = term-nameless

-- ---- heaps

pub spatial-lawful : (b : Bool) → AtomLaw (spatial (terms b))
spatial-lawful b = spatial-all (terms_of (terms b)) (terms-all b) (terms-nameless b)

pub heap-lawful : (b : Bool) → Lawful (heap (terms b))
heap-lawful b = heap-law (terms_of (terms b)) (spatial (terms b)) (terms-all b) (spatial-lawful b)

pub heap-stops : (b : Bool) (d : Word) → is_one star d ≡ false → (x : Heap) → (heap (terms b)).fits x
    → (heap (terms b)).more x d ≡ false
heap-stops b = heap-end (terms_of (terms b)) (spatial (terms b)) (spatial-lawful b)

-- ---- definitions

cases-law : Lawful cases
unfolding cases
cases-law = heaps-law bar closing_brace (terms_of (terms false)) (spatial (terms false)) (symbol-law _) (symbol-law _)
    refl refl refl (terms-all false) (spatial-lawful false)

cases-closed : (hs : List Heap) (d : Word) → cases.more hs d ≡ false
unfolding cases
cases-closed hs d = listed-closed some_heap bar closing_brace (heap (terms false)) hs d

pub definition-law : Lawful definition
unfolding definition
definition-law =
    shaped-law {A = List ℕ × (ℕ × List Heap)} to_definition from_definition Any _ (λ x f. (refl, tt)) (λ c h. refl)
    (after-law pred_word _ (keyword-law _)
    (seq-law (one free_name) (after opening (seq (one number)
    (after closing (after opening_brace (before cases semicolon))))) (one-law free_name free_name-law)
    (after-law opening _ (symbol-law _)
    (seq-law (one number) (after closing (after opening_brace (before cases semicolon))) (one-law number number-law)
    (after-law closing _ (symbol-law _) (after-law opening_brace _ (symbol-law _)
    (before-law cases semicolon (symbol-law _) cases-law (λ hs f. cases-closed hs (semicolon.word tt)))))
    (λ x y r fx fy h. Stops-never ((after closing (after opening_brace (before cases semicolon))).words y ++ r))))
    (λ x y r fx fy h. Stops-never ((after opening (seq (one number)
    (after closing (after opening_brace (before cases semicolon))))).words y ++ r))))

pub definition-closed : (x : Definition) (d : Word) → definition.more x d ≡ false
unfolding definition
definition-closed x d = refl

definition-starts : (x : Definition) → Begins (is_one pred_word) (definition.words x)
unfolding definition
definition-starts x = refl

pub definitions-law : Lawful definitions
unfolding definitions
definitions-law = many-law (is_one pred_word) definition definition-law
    (record { starts = λ x f. definition-starts x; apart = λ x d f h. definition-closed x d })

pub definitions-end : (d : Word) → is_one pred_word d ≡ false → (ds : List Definition) → definitions.more ds d ≡ false
unfolding definitions
definitions-end d h [] = h
definitions-end d h (x ∷ []) = rw (h, definition-closed x d) refl
definitions-end d h (x ∷ y ∷ ys) = definitions-end d h (y ∷ ys)
