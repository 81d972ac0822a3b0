-- Heaps over lawful terms are lawful: what is read is spelled so, what is spelled is read, and a fault is exact.
use Rattle.std.proofs.Common.{◌≡◌, ℕ, ◌<◌, Bool, true, false, List, [], ◌∷◌, ◌++◌, length, refl, arith, inl, inr, ◌⊎◌}
use Rattle.std.specs.Prelude.{codes}
use Rattle.cyc_lex.specs.Word.{Word}
use Rattle.cyc_lex.proofs.Letters.{letters-name}
use Rattle.cyc_grammar.specs.Syntax.{Syntax, Class, one, seq, more_many, fits_many, fits_alt, after, before, is_one}
use Rattle.cyc_grammar.specs.Syntax.{uncons, join_empty, split_empty}
use Rattle.cyc_grammar.specs.Classes.{is_free_name}
use Rattle.cyc_grammar.proofs.Laws.{Lawful, Stops, Begins, BeginsNot, BeginsNot-append, ClassLaw, one-law, seq-law}
use Rattle.cyc_grammar.proofs.Laws.{shaped-law, alt-law, many-law, after-law, before-law, list1-law, or_empty-law}
use Rattle.cyc_grammar.proofs.Laws.{class-begins, uncons-cons, some-true, Stops-never}
use Rattle.cyc_grammar.proofs.ClassLaws.{symbol-law, keyword-law, name-law, free-no}
use Rattle.heap_syntax.specs.declared.tree.PureTree.{PureTree}
use Rattle.heap_syntax.specs.Trees.{Spatial, Cell, Predicate, Heap}
use Rattle.heap_syntax.specs.Words.{nil, true_word, emp, equal, unequal, comma, colon, star, arrow, opening, closing}
use Rattle.heap_syntax.specs.Words.{prime, reserved, free_name}
use Rattle.heap_syntax.specs.Grammar.{Any, cons, IsSome, more_listed, listed, Terms, to_sign, from_sign, sign, to_pure}
use Rattle.heap_syntax.specs.Grammar.{from_pure, pure, some_pure, pures1, pures, fields, arguments, to_spatial}
use Rattle.heap_syntax.specs.Grammar.{from_spatial, predicate, cell, spatial, some_spatial, spatials1, spatials}
use Rattle.heap_syntax.specs.Grammar.{to_heap, from_heap, heap, some_heap, heaps}

-- a word of a class is the word of that class
pub one-is : (c : Class (Unit {0})) → ClassLaw c → (d : Word) → is_one c d ≡ true → d ≡ c.word tt
one-is c law d h = let p = some-true (c.value d) h in (law.word d p.0 p.1).0

-- a text that nothing goes on stops before any words
pub closed-stops : {A : Type 0} (a : Syntax A) → ((x : A) (d : Word) → a.fits x → a.more x d ≡ false) → (x : A)
    → a.fits x → (ws : List Word) → Stops (a.more x) ws
closed-stops a closed x f [] = tt
closed-stops a closed x f (d ∷ ws) = closed x d f

-- a list whose items are closed goes on at its separator alone
pub list-end : {A : Type 0} (c : Class (Unit {0})) (a : Syntax A) → ((x : A) (d : Word) → a.fits x → a.more x d ≡ false)
    → (d : Word) → is_one c d ≡ false → (xs : List A) → fits_many (after c a) xs
    → more_many (is_one c) (after c a) xs d ≡ false
list-end c a closed d h [] f = h
list-end c a closed d h (x ∷ []) f = rw (h, closed x d f.0) refl
list-end c a closed d h (x ∷ y ∷ ys) f = list-end c a closed d h (y ∷ ys) f.1

-- ---- one or more, with a word between neighbours and one after

-- two different words, neither of which goes on an item
pub record Between {A : Type 0} (between behind : Class (Unit {0})) (a : Syntax A) : Type 0 where
  pub law : ClassLaw between
  pub last : ClassLaw behind
  pub apart : (x : A) → a.fits x → a.more x (between.word tt) ≡ false
  pub last_apart : (x : A) → a.fits x → a.more x (behind.word tt) ≡ false
  pub differ : is_one between (behind.word tt) ≡ false

more_listed-law : {A : Type 0} (m n : Class (Unit {0})) (a : Syntax A) → Between m n a → Lawful a
    → Lawful (more_listed m a)
more_listed-law m n a b la = many-law (is_one m) (after m a) (after-law m a b.law la)
    (record { starts = λ x f. class-begins m a b.law x; apart = λ x d f h. rw (one-is m b.law d h) (b.apart x f) })

more_listed-close : {A : Type 0} (m n : Class (Unit {0})) (a : Syntax A) → Between m n a → (xs : List A)
    → (more_listed m a).fits xs → (more_listed m a).more xs (n.word tt) ≡ false
more_listed-close m n a b [] f = b.differ
more_listed-close m n a b (x ∷ []) f = rw (b.differ, b.last_apart x f.0) refl
more_listed-close m n a b (x ∷ y ∷ ys) f = more_listed-close m n a b (y ∷ ys) f.1

listed-apart : {A : Type 0} (m n : Class (Unit {0})) (a : Syntax A) → Between m n a
    → (x : A) (xs : List A) (r : List Word) → a.fits x → Stops (a.more x) ((before (more_listed m a) n).words xs ++ r)
listed-apart m n a b x [] r f = b.last_apart x f
listed-apart m n a b x (y ∷ ys) r f = b.apart x f

pub listed-law : {A : Type 0} (default : A) (m n : Class (Unit {0})) (a : Syntax A) → Between m n a → Lawful a
    → Lawful (listed default m n a)
unfolding listed
listed-law {A = A} default m n a b la =
    shaped-law {A = A × List A} cons (uncons default) IsSome _ (λ x f. (refl, omega arith))
    (λ xs h. uncons-cons default xs h)
    (seq-law a (before (more_listed m a) n) la (before-law (more_listed m a) n b.last (more_listed-law m n a b la)
    (more_listed-close m n a b)) (λ x ys r fx fys h. listed-apart m n a b x ys r fx))

pub listed-closed : {A : Type 0} (default : A) (m n : Class (Unit {0})) (a : Syntax A) (xs : List A) (d : Word)
    → (listed default m n a).more xs d ≡ false
unfolding listed
listed-closed default m n a xs d = refl

pub listed-some : {A : Type 0} (default : A) (m n : Class (Unit {0})) (a : Syntax A) (xs : List A)
    → (listed default m n a).fits xs → 0 < length xs
unfolding listed
listed-some default m n a xs f = f.0

-- what no item begins with, no list of them begins with
pub listed-not : {A : Type 0} (default : A) (m n : Class (Unit {0})) (a : Syntax A) (test : Word → Bool)
    → ((x : A) → a.fits x → BeginsNot test (a.words x)) → (xs : List A) → (listed default m n a).fits xs
    → BeginsNot test ((listed default m n a).words xs)
unfolding listed
listed-not default m n a test none [] f = absurd (omega arith)
listed-not default m n a test none (x ∷ xs) f = BeginsNot-append test _ _ (none x f.1.0)

-- ---- what a heap needs of its terms and of its spatial atoms

-- a term goes on at a prime at most
pub record TermLaw {T : Type 0} (t : Terms T) : Type 0 where
  pub law : Lawful t.syntax
  pub closed : (x : T) (d : Word) → t.syntax.fits x → is_one prime d ≡ false → t.syntax.more x d ≡ false
  pub not_true : (x : T) → t.syntax.fits x → BeginsNot (is_one true_word) (t.syntax.words x)
  pub not_closing : (x : T) → t.syntax.fits x → BeginsNot (is_one closing) (t.syntax.words x)

pub record AtomLaw {T : Type 0} (atom : Syntax (Spatial T)) : Type 0 where
  pub law : Lawful atom
  pub closed : (x : Spatial T) (d : Word) → atom.fits x → atom.more x d ≡ false
  pub not_emp : (x : Spatial T) → atom.fits x → BeginsNot (is_one emp) (atom.words x)

-- ---- pure atoms

pub sign-law : Lawful sign
unfolding sign
sign-law =
    shaped-law {A = Unit {0} ⊎ Unit {0}} to_sign from_sign Any _ (λ x f. (there x, tt)) (λ b h. here b)
    (alt-law (is_one equal) (one equal) (one unequal) (λ u f. refl) (λ u f. refl) (one-law equal (symbol-law _))
    (one-law unequal (symbol-law _)))
  where
    there : (x : Unit {0} ⊎ Unit {0}) → from_sign (to_sign x) ≡ x
    there (inl u) = refl
    there (inr u) = refl

    here : (b : Bool) → to_sign (from_sign b) ≡ b
    here true = refl
    here false = refl

pub sign-closed : (b : Bool) (d : Word) → sign.more b d ≡ false
unfolding sign
sign-closed true d = refl
sign-closed false d = refl

pure-law : {T : Type 0} (t : Terms T) → TermLaw t → Lawful (pure t.syntax)
unfolding pure sign
pure-law {T = T} t a =
    shaped-law {A = T × (Bool × T)} to_pure from_pure Any _ (λ x f. (refl, tt)) (λ p h. refl)
    (seq-law t.syntax (seq sign t.syntax) a.law (seq-law sign t.syntax sign-law a.law
    (λ b x r fb fx h. closed-stops sign (λ b d f. sign-closed b d) b fb (t.syntax.words x ++ r)))
    (λ x y r fx fy h. apart x y.0 y.1 r fx))
  where
    apart : (x : T) (b : Bool) (y : T) (r : List Word) → t.syntax.fits x
        → Stops (t.syntax.more x) ((seq sign t.syntax).words (b, y) ++ r)
    apart x true y r f = a.closed x (equal.word tt) f refl
    apart x false y r f = a.closed x (unequal.word tt) f refl

pure-closed : {T : Type 0} (t : Terms T) → TermLaw t → (p : PureTree T) (d : Word) → (pure t.syntax).fits p
    → is_one prime d ≡ false → (pure t.syntax).more p d ≡ false
unfolding pure
pure-closed t a p d f h = a.closed p.right d f.1.1.1 h

pure-not : {T : Type 0} (t : Terms T) (test : Word → Bool)
    → ((x : T) → t.syntax.fits x → BeginsNot test (t.syntax.words x)) → (p : PureTree T) → (pure t.syntax).fits p
    → BeginsNot test ((pure t.syntax).words p)
unfolding pure
pure-not t test each p f = BeginsNot-append test _ _ (each p.left f.1.0)

pures1-law : {T : Type 0} (t : Terms T) → TermLaw t → Lawful (pures1 t)
unfolding pures1
pures1-law t a = listed-law (some_pure t) comma colon (pure t.syntax)
    (record {
      law = symbol-law _;
      last = symbol-law _;
      apart = λ x f. pure-closed t a x (comma.word tt) f refl;
      last_apart = λ x f. pure-closed t a x (colon.word tt) f refl;
      differ = refl;
    }) (pure-law t a)

pures1-some : {T : Type 0} (t : Terms T) (ps : List (PureTree T)) → (pures1 t).fits ps → 0 < length ps
unfolding pures1
pures1-some t ps f = listed-some (some_pure t) comma colon (pure t.syntax) ps f

pures1-not : {T : Type 0} (t : Terms T) → TermLaw t → (ps : List (PureTree T)) → (pures1 t).fits ps
    → BeginsNot (is_one true_word) ((pures1 t).words ps)
unfolding pures1
pures1-not t a ps f = listed-not (some_pure t) comma colon (pure t.syntax) (is_one true_word)
    (pure-not t (is_one true_word) a.not_true) ps f

pures-law : {T : Type 0} (t : Terms T) → TermLaw t → Lawful (pures t)
unfolding pures
pures-law {T = T} t a =
    shaped-law {A = Unit {0} ⊎ List (PureTree T)} join_empty split_empty Any _ (λ x f. (there x f, tt))
    (λ ps h. here ps)
    (alt-law (is_one true_word) (after true_word (one colon)) (pures1 t) (λ u f. refl) (pures1-not t a)
    (after-law true_word (one colon) (keyword-law _) (one-law colon (symbol-law _))) (pures1-law t a))
  where
    there : (x : Unit {0} ⊎ List (PureTree T)) → fits_alt (after true_word (one colon)) (pures1 t) x
        → split_empty (join_empty x) ≡ x
    there (inl u) f = refl
    there (inr []) f = let h = pures1-some t [] f in absurd (omega arith)
    there (inr (p ∷ ps)) f = refl

    here : (ps : List (PureTree T)) → join_empty (split_empty ps) ≡ ps
    here [] = refl
    here (p ∷ ps) = refl

pures-not : {T : Type 0} (t : Terms T) (test : Word → Bool) → test (true_word.word tt) ≡ false
    → ((x : T) → t.syntax.fits x → BeginsNot test (t.syntax.words x)) → (ps : List (PureTree T)) → (pures t).fits ps
    → BeginsNot test ((pures t).words ps)
unfolding pures pures1
pures-not t test none each [] f = none
pures-not t test none each (p ∷ ps) f = listed-not (some_pure t) comma colon (pure t.syntax) test (pure-not t test each)
    (p ∷ ps) f.1

pures-closed : {T : Type 0} (t : Terms T) (ps : List (PureTree T)) (d : Word) → (pures t).more ps d ≡ false
unfolding pures pures1
pures-closed t [] d = refl
pures-closed t (p ∷ ps) d = listed-closed (some_pure t) comma colon (pure t.syntax) (p ∷ ps) d

-- ---- spatial atoms

pub fields-law : {T : Type 0} (t : Terms T) → TermLaw t → Lawful (fields t)
unfolding fields
fields-law t a = listed-law t.some comma closing t.syntax
    (record {
      law = symbol-law _;
      last = symbol-law _;
      apart = λ x f. a.closed x (comma.word tt) f refl;
      last_apart = λ x f. a.closed x (closing.word tt) f refl;
      differ = refl;
    }) a.law

fields-some : {T : Type 0} (t : Terms T) (xs : List T) → (fields t).fits xs → 0 < length xs
unfolding fields
fields-some t xs f = listed-some t.some comma closing t.syntax xs f

fields-not : {T : Type 0} (t : Terms T) → TermLaw t → (xs : List T) → (fields t).fits xs
    → BeginsNot (is_one closing) ((fields t).words xs)
unfolding fields
fields-not t a xs f = listed-not t.some comma closing t.syntax (is_one closing) a.not_closing xs f

pub fields-closed : {T : Type 0} (t : Terms T) (xs : List T) (d : Word) → (fields t).more xs d ≡ false
unfolding fields
fields-closed t xs d = listed-closed t.some comma closing t.syntax xs d

pub arguments-law : {T : Type 0} (t : Terms T) → TermLaw t → Lawful (arguments t)
unfolding arguments
arguments-law t a = or_empty-law closing (fields t) (symbol-law _) (fields-law t a) (fields-some t) (fields-not t a)

pub arguments-closed : {T : Type 0} (t : Terms T) (xs : List T) (d : Word) → (arguments t).more xs d ≡ false
unfolding arguments
arguments-closed t [] d = refl
arguments-closed t (x ∷ xs) d = fields-closed t (x ∷ xs) d

pub free_name-law : ClassLaw free_name
unfolding is_free_name
free_name-law = name-law reserved (codes "p") (rw (letters-name (codes "p") refl) refl)

pub nil-no-name : is_one free_name (nil.word tt) ≡ false
unfolding is_free_name
nil-no-name = rw (letters-name (codes "nil") refl) refl

pub emp-reserved : is_free_name reserved (codes "emp") ≡ false
unfolding is_free_name
emp-reserved = rw (letters-name (codes "emp") refl) refl

-- terms that begin with no name
pub record Nameless {T : Type 0} (t : Terms T) : Type 0 where
  pub not_emp : (x : T) → t.syntax.fits x → BeginsNot (is_one emp) (t.syntax.words x)
  pub not_name : (x : T) → t.syntax.fits x → BeginsNot (is_one free_name) (t.syntax.words x)

predicate-law : {T : Type 0} (t : Terms T) → TermLaw t → Lawful (predicate t)
unfolding predicate
predicate-law t a = seq-law (one free_name) (after opening (arguments t)) (one-law free_name free_name-law)
    (after-law opening (arguments t) (symbol-law _) (arguments-law t a))
    (λ x y r fx fy h. Stops-never ((after opening (arguments t)).words y ++ r))

cell-law : {T : Type 0} (t : Terms T) → TermLaw t → Lawful (cell t)
unfolding cell
cell-law t a =
    seq-law t.syntax (after arrow (after opening (fields t))) a.law
    (after-law arrow (after opening (fields t)) (symbol-law _)
    (after-law opening (fields t) (symbol-law _) (fields-law t a)))
    (λ x y r fx fy h. a.closed x (arrow.word tt) fx refl)

predicate-named : {T : Type 0} (t : Terms T) (x : List ℕ × List T) → (predicate t).fits x
    → Begins (is_one free_name) ((predicate t).words x)
unfolding predicate
predicate-named t x f = rw (free_name-law.value x.0 f.0) refl

cell-unnamed : {T : Type 0} (t : Terms T) → Nameless t → (x : T × List T) → (cell t).fits x
    → BeginsNot (is_one free_name) ((cell t).words x)
unfolding cell
cell-unnamed t n x f = BeginsNot-append (is_one free_name) _ _ (n.not_name x.0 f.0)

spatial-law : {T : Type 0} (t : Terms T) → TermLaw t → Nameless t → Lawful (spatial t)
unfolding spatial
spatial-law {T = T} t a n =
    shaped-law {A = (List ℕ × List T) ⊎ (T × List T)} to_spatial from_spatial Any _ (λ x f. (there x, tt))
    (λ s h. here s)
    (alt-law (is_one free_name) (predicate t) (cell t) (predicate-named t) (cell-unnamed t n) (predicate-law t a)
    (cell-law t a))
  where
    there : (x : (List ℕ × List T) ⊎ (T × List T)) → from_spatial (to_spatial x) ≡ x
    there (inl p) = refl
    there (inr c) = refl

    here : (s : Spatial T) → to_spatial (from_spatial s) ≡ s
    here (Predicate s ts) = refl
    here (Cell t ts) = refl

spatial-closed : {T : Type 0} (t : Terms T) → (s : Spatial T) (d : Word) → (spatial t).more s d ≡ false
unfolding spatial predicate cell
spatial-closed t (Predicate s ts) d = arguments-closed t ts d
spatial-closed t (Cell x ts) d = fields-closed t ts d

spatial-not : {T : Type 0} (t : Terms T) → Nameless t → (s : Spatial T) → (spatial t).fits s
    → BeginsNot (is_one emp) ((spatial t).words s)
unfolding spatial predicate cell
spatial-not t n (Predicate s ts) f = free-no reserved (codes "emp") emp-reserved s f.1.0
spatial-not t n (Cell x ts) f = BeginsNot-append (is_one emp) _ _ (n.not_emp x f.1.0)

pub spatial-all : {T : Type 0} (t : Terms T) → TermLaw t → Nameless t → AtomLaw (spatial t)
spatial-all t a n = record {
  law = spatial-law t a n;
  closed = λ s d f. spatial-closed t s d;
  not_emp = spatial-not t n;
}

spatials1-law : {T : Type 0} (t : Terms T) (atom : Syntax (Spatial T)) → AtomLaw atom → Lawful (spatials1 t atom)
unfolding spatials1
spatials1-law t atom b = list1-law (some_spatial t) star atom (symbol-law _) b.law b.closed

spatials1-some : {T : Type 0} (t : Terms T) (atom : Syntax (Spatial T)) (cs : List (Spatial T))
    → (spatials1 t atom).fits cs → 0 < length cs
unfolding spatials1
spatials1-some t atom cs f = f.0

spatials1-not : {T : Type 0} (t : Terms T) (atom : Syntax (Spatial T)) → AtomLaw atom → (cs : List (Spatial T))
    → (spatials1 t atom).fits cs → BeginsNot (is_one emp) ((spatials1 t atom).words cs)
unfolding spatials1
spatials1-not t atom b [] f = absurd (omega arith)
spatials1-not t atom b (c ∷ cs) f = BeginsNot-append (is_one emp) _ _ (b.not_emp c f.1.0)

spatials-law : {T : Type 0} (t : Terms T) (atom : Syntax (Spatial T)) → AtomLaw atom → Lawful (spatials t atom)
unfolding spatials
spatials-law t atom b = or_empty-law emp (spatials1 t atom) (keyword-law _) (spatials1-law t atom b)
    (spatials1-some t atom) (spatials1-not t atom b)

-- ---- heaps

pub heap-law : {T : Type 0} (t : Terms T) (atom : Syntax (Spatial T)) → TermLaw t → AtomLaw atom → Lawful (heap t atom)
unfolding heap
heap-law {T = T} t atom a b =
    shaped-law {A = List (PureTree T) × List (Spatial T)} to_heap from_heap Any _ (λ x f. (refl, tt)) (λ c h. refl)
    (seq-law (pures t) (spatials t atom) (pures-law t a) (spatials-law t atom b)
    (λ ps cs r fp fc h. closed-stops (pures t) (λ ps d f. pures-closed t ps d) ps fp ((spatials t atom).words cs ++ r)))

-- what neither "true" nor a term begins with, no heap begins with
pub heap-not : {T : Type 0} (t : Terms T) (atom : Syntax (Spatial T)) (test : Word → Bool)
    → test (true_word.word tt) ≡ false → ((x : T) → t.syntax.fits x → BeginsNot test (t.syntax.words x)) → (h : Heap T)
    → (heap t atom).fits h → BeginsNot test ((heap t atom).words h)
unfolding heap
heap-not t atom test none each h f = BeginsNot-append test _ _ (pures-not t test none each h.pure f.1.0)

spatials-end : {T : Type 0} (t : Terms T) (atom : Syntax (Spatial T)) → AtomLaw atom → (d : Word)
    → is_one star d ≡ false → (cs : List (Spatial T)) → (spatials t atom).fits cs → (spatials t atom).more cs d ≡ false
unfolding spatials spatials1
spatials-end t atom b d h [] f = refl
spatials-end t atom b d h (c ∷ cs) f = list-end star atom b.closed d h cs f.1.1.1

-- a heap goes on with a '*' alone
pub heap-end : {T : Type 0} (t : Terms T) (atom : Syntax (Spatial T)) → AtomLaw atom → (d : Word)
    → is_one star d ≡ false → (x : Heap T) → (heap t atom).fits x → (heap t atom).more x d ≡ false
unfolding heap
heap-end t atom b d h x f = spatials-end t atom b d h x.spatial f.1.1

-- two words that are no '*', after heaps
pub heaps-law : {T : Type 0} (m n : Class (Unit {0})) (t : Terms T) (atom : Syntax (Spatial T)) → ClassLaw m
    → ClassLaw n → is_one star (m.word tt) ≡ false → is_one star (n.word tt) ≡ false → is_one m (n.word tt) ≡ false
    → TermLaw t → AtomLaw atom → Lawful (heaps m n (heap t atom))
heaps-law m n t atom lm ln sm sn differ a b =
    listed-law some_heap m n (heap t atom) (record {
      law = lm;
      last = ln;
      apart = λ x f. heap-end t atom b (m.word tt) sm x f;
      last_apart = λ x f. heap-end t atom b (n.word tt) sn x f;
      differ = differ;
    }) (heap-law t atom a b)
