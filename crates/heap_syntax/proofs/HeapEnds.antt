-- The texts of heaps are of lexemes.
use Rattle.std.proofs.Common.{◌≡◌, ℕ, Bool, true, List, ◌⊎◌}
use Rattle.cyc_lex.specs.Word.{is_lexeme}
use Rattle.cyc_grammar.specs.Syntax.{Syntax, Class, one, seq, is_one, uncons, join_empty, split_empty}
use Rattle.cyc_grammar.proofs.Ends.{Inner, one-inner, seq-inner, after-inner, before-inner, alt-inner, many-inner}
use Rattle.cyc_grammar.proofs.Ends.{shaped-inner, list1-inner, or_empty-inner, name-inner}
use Rattle.heap_syntax.specs.declared.tree.PureTree.{PureTree}
use Rattle.heap_syntax.specs.Trees.{Spatial}
use Rattle.heap_syntax.specs.Words.{true_word, emp, equal, unequal, comma, colon, star, arrow, opening, closing}
use Rattle.heap_syntax.specs.Words.{reserved, free_name}
use Rattle.heap_syntax.specs.Grammar.{Any, cons, IsSome, more_listed, listed, Terms, to_sign, from_sign, sign, to_pure}
use Rattle.heap_syntax.specs.Grammar.{from_pure, pure, some_pure, pures1, pures, fields, arguments, to_spatial}
use Rattle.heap_syntax.specs.Grammar.{from_spatial, predicate, cell, spatial, some_spatial, spatials1, spatials}
use Rattle.heap_syntax.specs.Grammar.{to_heap, from_heap, heap, some_heap, heaps}
use Rattle.heap_syntax.proofs.WordTexts.{true-word, emp-word, syms}

pub listed-inner : {A : Type 0} (default : A) (m n : Class (Unit {0})) (a : Syntax A) → is_lexeme (m.word tt) ≡ true
    → is_lexeme (n.word tt) ≡ true → Inner a → Inner (listed default m n a)
unfolding listed
listed-inner {A = A} default m n a h k ia = shaped-inner {A = A × List A} cons (uncons default) IsSome _
    (seq-inner a _ ia (before-inner (more_listed m a) n k (many-inner (is_one m) _ (after-inner m a h ia))))

pub sign-inner : Inner sign
unfolding sign
sign-inner = shaped-inner {A = Unit {0} ⊎ Unit {0}} to_sign from_sign Any _
    (alt-inner (is_one equal) (one equal) (one unequal) (one-inner equal (λ u f. syms.equal_word))
    (one-inner unequal (λ u f. syms.unequal_word)))

pures-inner : {T : Type 0} (t : Terms T) → Inner t.syntax → Inner (pures t)
unfolding pures pures1 pure
pures-inner {T = T} t it = shaped-inner {A = Unit {0} ⊎ List (PureTree T)} join_empty split_empty Any _
    (alt-inner (is_one true_word) _ _ (after-inner true_word _ true-word (one-inner colon (λ u f. syms.colon_word)))
    (listed-inner (some_pure t) comma colon _ syms.comma_word syms.colon_word
    (shaped-inner {A = T × (Bool × T)} to_pure from_pure Any _
    (seq-inner t.syntax (seq sign t.syntax) it (seq-inner sign t.syntax sign-inner it)))))

pub fields-inner : {T : Type 0} (t : Terms T) → Inner t.syntax → Inner (fields t)
unfolding fields
fields-inner t it = listed-inner t.some comma closing t.syntax syms.comma_word syms.closing_word it

pub arguments-inner : {T : Type 0} (t : Terms T) → Inner t.syntax → Inner (arguments t)
unfolding arguments
arguments-inner t it = or_empty-inner closing (fields t) syms.closing_word (fields-inner t it)

pub spatial-inner : {T : Type 0} (t : Terms T) → Inner t.syntax → Inner (spatial t)
unfolding spatial predicate cell
spatial-inner {T = T} t it = shaped-inner {A = (List ℕ × List T) ⊎ (T × List T)} to_spatial from_spatial Any _
    (alt-inner (is_one free_name) _ _
    (seq-inner (one free_name) _ (name-inner reserved) (after-inner opening _ syms.opening_word (arguments-inner t it)))
    (seq-inner t.syntax _ it (after-inner arrow _ syms.arrow_word
    (after-inner opening _ syms.opening_word (fields-inner t it)))))

spatials-inner : {T : Type 0} (t : Terms T) (atom : Syntax (Spatial T)) → Inner atom → Inner (spatials t atom)
unfolding spatials spatials1
spatials-inner t atom ia = or_empty-inner emp _ emp-word (list1-inner (some_spatial t) star atom syms.star_word ia)

pub heap-inner : {T : Type 0} (t : Terms T) (atom : Syntax (Spatial T)) → Inner t.syntax → Inner atom
    → Inner (heap t atom)
unfolding heap
heap-inner {T = T} t atom it ia = shaped-inner {A = List (PureTree T) × List (Spatial T)} to_heap from_heap Any _
    (seq-inner (pures t) _ (pures-inner t it) (spatials-inner t atom ia))

pub heaps-inner : {T : Type 0} (m n : Class (Unit {0})) (t : Terms T) (atom : Syntax (Spatial T))
    → is_lexeme (m.word tt) ≡ true → is_lexeme (n.word tt) ≡ true → Inner t.syntax → Inner atom
    → Inner (heaps m n (heap t atom))
heaps-inner m n t atom h k it ia = listed-inner some_heap m n (heap t atom) h k (heap-inner t atom it ia)
