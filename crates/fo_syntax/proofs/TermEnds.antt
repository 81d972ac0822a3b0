-- The texts of terms and atoms are of lexemes.
use Rattle.std.proofs.Common.{◌≡◌, ℕ, Bool, true, false, List, [], ◌∷◌, refl, inl, inr, ◌⊎◌}
use Rattle.cyc_lex.specs.Word.{is_lexeme, are_lexemes}
use Rattle.cyc_grammar.specs.Syntax.{Syntax, Class, one, after, is_one}
use Rattle.cyc_grammar.specs.Classes.{number}
use Rattle.cyc_grammar.proofs.Ends.{Inner, one-inner, seq-inner, after-inner, before-inner, alt-inner, shaped-inner}
use Rattle.cyc_grammar.proofs.Ends.{lexemes-append, number-inner, name-inner}
use Rattle.heap_syntax.specs.Grammar.{Any}
use Rattle.heap_syntax.specs.Words.{equal, comma, opening, closing, dollar, query}
use Rattle.heap_syntax.proofs.WordTexts.{syms}
use Rattle.fo_syntax.specs.declared.terms.bracket.Awaited.{Awaited}
use Rattle.fo_syntax.specs.declared.terms.bracket.Awaited.TheVariants.{First, Next, Nothing}
use Rattle.fo_syntax.specs.Words.{reserved, free_name}
use Rattle.fo_syntax.specs.Steps.{Steps, words_steps, fits_steps, steps, words_option, fits_option, option}
use Rattle.fo_syntax.specs.Trees.{Sign}
use Rattle.fo_syntax.specs.Brackets.{Mark}
use Rattle.fo_syntax.specs.Grammar.{to_leaf, from_leaf, IsLeaf, to_variable, from_variable, IsVariable, leaf, to_head}
use Rattle.fo_syntax.specs.Grammar.{from_head, IsHead, named, head, to_mark, from_mark, first_mark, next_mark, mark}
use Rattle.fo_syntax.specs.Grammar.{within, marks, to_application, from_application, IsApplication, application}
use Rattle.fo_syntax.specs.Grammar.{to_term, from_term, IsTerm, term, Sides, to_atom, from_atom, IsAtom, atom}

steps-inner : {S A : Type 0} (p : Steps S A) → ((s : S) → Inner (p.item s)) → (s : S) → Inner (steps p s)
steps-inner {S = S} {A = A} p each s = record { inner = all s }
  where
    all : (s : S) (xs : List A) → fits_steps p s xs → are_lexemes (words_steps p s xs) ≡ true
    all s [] f = refl
    all s (x ∷ xs) f = lexemes-append ((p.item s).words x) (words_steps p (p.next s x) xs) ((each s).inner x f.1.0)
        (all (p.next s x) xs f.1.1)

option-inner : {A : Type 0} (c : Class (Unit {0})) (a : Syntax A) → is_lexeme (c.word tt) ≡ true → Inner a
    → Inner (option c a)
option-inner {A = A} c a h ia = record { inner = both }
  where
    both : (t : Unit {0} ⊎ A) → fits_option a t → are_lexemes (words_option c a t) ≡ true
    both (inl u) f = refl
    both (inr x) f = rw (h, ia.inner x f) refl

leaf-inner : (b : Bool) → Inner (leaf b)
unfolding leaf
leaf-inner true = shaped-inner {A = ℕ ⊎ ℕ} to_leaf from_leaf IsLeaf _
    (alt-inner (is_one dollar) _ _ (after-inner dollar (one number) syms.dollar_word number-inner)
    (after-inner query (one number) syms.query_word number-inner))
leaf-inner false = shaped-inner {A = ℕ} to_variable from_variable IsVariable _
    (after-inner dollar (one number) syms.dollar_word number-inner)

named-inner : Inner named
unfolding named
named-inner = before-inner (one free_name) opening syms.opening_word (name-inner reserved)

head-inner : (b : Bool) → Inner (head b)
unfolding head
head-inner b = shaped-inner {A = List ℕ ⊎ Sign} to_head from_head IsHead _
    (alt-inner (is_one free_name) named (leaf b) named-inner (leaf-inner b))

first-inner : (b : Bool) → Inner (first_mark b)
unfolding first_mark
first-inner b = shaped-inner {A = Unit {0} ⊎ Mark} to_mark from_mark Any _
    (alt-inner (is_one closing) (one closing) (head b) (one-inner closing (λ u f. syms.closing_word)) (head-inner b))

next-inner : (b : Bool) → Inner (next_mark b)
unfolding next_mark
next-inner b = shaped-inner {A = Unit {0} ⊎ Mark} to_mark from_mark Any _
    (alt-inner (is_one closing) (one closing) (after comma (head b)) (one-inner closing (λ u f. syms.closing_word))
    (after-inner comma (head b) syms.comma_word (head-inner b)))

mark-inner : (b : Bool) (a : Awaited) → Inner (mark b a)
mark-inner b (First n) = first-inner b
mark-inner b (Next n) = next-inner b
mark-inner b Nothing = next-inner b

application-inner : (b : Bool) → Inner (application b)
unfolding application marks
application-inner b = shaped-inner {A = List ℕ × List Mark} to_application from_application IsApplication _
    (seq-inner named _ named-inner (steps-inner (within b) (mark-inner b) (First 0)))

pub term-inner : (b : Bool) → Inner (term b)
unfolding term
term-inner b = shaped-inner {A = List Sign ⊎ Sign} to_term from_term IsTerm _
    (alt-inner (is_one free_name) (application b) (leaf b) (application-inner b) (leaf-inner b))

pub atom-inner : (b : Bool) → Inner (atom b)
unfolding atom
atom-inner b = shaped-inner {A = Sides} to_atom from_atom IsAtom _
    (alt-inner (is_one free_name) _ _ (seq-inner (application b) _ (application-inner b)
    (option-inner equal (term b) syms.equal_word (term-inner b)))
    (seq-inner (leaf b) _ (leaf-inner b) (after-inner equal (term b) syms.equal_word (term-inner b))))
