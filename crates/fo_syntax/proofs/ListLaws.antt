-- One item or more with a word between neighbours: lawful, where no item goes on at that word.
use Rattle.std.proofs.Common.{◌≡◌, ℕ, suc, ◌<◌, Bool, true, false, ◌&&◌, List, [], ◌∷◌, ◌++◌, length, Ok, Err, refl}
use Rattle.std.proofs.Common.{sym, ap, ◌∙◌, arith}
use Rattle.cyc_lex.specs.Word.{Word}
use Rattle.cyc_grammar.specs.Syntax.{Syntax, Class, is_one, after, many, words_many, more_many, fits_many}
use Rattle.cyc_grammar.proofs.Laws.{Lawful, Faults, Stops, ClassLaw, BeginsNot, BeginsNot-append, many-law, after-law}
use Rattle.cyc_grammar.proofs.Laws.{class-begins, differ}
use Rattle.cyc_grammar.proofs.Ends.{Inner, after-inner, many-inner}
use Rattle.cyc_lex.specs.Word.{is_lexeme, are_lexemes}
use Rattle.fo_syntax.specs.Lists.{words_list, read_list, list_of}
use Rattle.heap_syntax.proofs.HeapLaws.{one-is}

-- the word is one, and no item goes on at it
pub record Parted {A : Type 0} (c : Class (Unit {0})) (a : Syntax A) : Type 0 where
  pub word : ClassLaw c
  pub law : Lawful a
  pub apart : (x : A) → a.fits x → a.more x (c.word tt) ≡ false

rest-law : {A : Type 0} (c : Class (Unit {0})) (a : Syntax A) → Parted c a → Lawful (many (is_one c) (after c a))
rest-law c a p = many-law (is_one c) (after c a) (after-law c a p.word p.law)
    (record { starts = λ x f. class-begins c a p.word x; apart = λ x d f h. rw (one-is c p.word d h) (p.apart x f) })

is-word : (c : Class (Unit {0})) → ClassLaw c → is_one c (c.word tt) ≡ true
is-word c l = rw (l.value tt l.fits) refl

-- a list is what stands after a first separator
shifted : {A : Type 0} (c : Class (Unit {0})) (a : Syntax A) → ClassLaw c → (ts : List Word)
    → (many (is_one c) (after c a)).read (c.word tt ∷ ts) ≡ read_list c a ts
shifted c a l ts = rw (l.value tt l.fits) refl

joined : {A : Type 0} (c : Class (Unit {0})) (a : Syntax A) (xs : List A) → 0 < length xs
    → words_many (after c a) xs ≡ c.word tt ∷ words_list c a xs
joined c a [] h = absurd (omega arith)
joined c a (x ∷ xs) h = refl

-- items of which there are some
some-items : {A : Type 0} (c : Class (Unit {0})) (a : Syntax A) → ClassLaw c → (xs : List A) (front tail : List Word)
    → words_many (after c a) xs ≡ c.word tt ∷ front ++ tail → (0 < length xs) × (words_list c a xs ≡ front ++ tail)
some-items c a l [] front tail e = absurd cc
some-items c a l (x ∷ xs) front tail e = (omega arith, cc)

list-takes : {A : Type 0} (c : Class (Unit {0})) (a : Syntax A) → Parted c a → (ts : List Word) (x : List A × List Word)
    → read_list c a ts ≡ Ok x → (ts ≡ words_list c a x.0 ++ x.1) × Stops (more_many (is_one c) (after c a) x.0) x.1
    × ((0 < length x.0) × fits_many (after c a) x.0)
list-takes {A = A} c a p ts x e = by_items x.0 x.1 t.0 t.1 t.2
  where
    t : (c.word tt ∷ ts ≡ words_many (after c a) x.0 ++ x.1) × Stops (more_many (is_one c) (after c a) x.0) x.1
        × fits_many (after c a) x.0
    t = (rest-law c a p).takes (c.word tt ∷ ts) x (shifted c a p.word ts ∙ e)

    by_items : (xs : List A) (rest : List Word) → c.word tt ∷ ts ≡ words_many (after c a) xs ++ rest
        → Stops (more_many (is_one c) (after c a) xs) rest → fits_many (after c a) xs
        → (ts ≡ words_list c a xs ++ rest) × Stops (more_many (is_one c) (after c a) xs) rest
        × ((0 < length xs) × fits_many (after c a) xs)
    by_items [] [] same stop fit = absurd cc
    by_items [] (d ∷ rest) same stop fit = let heads : c.word tt ≡ d = cc in let yes_one = is-word c p.word in
        let stop2 : is_one c (c.word tt) ≡ false = rw heads stop in absurd cc
    by_items (y ∷ ys) rest same stop fit = (cc, stop, (omega arith, fit))

list-again : {A : Type 0} (c : Class (Unit {0})) (a : Syntax A) → Parted c a → (xs : List A) (rest : List Word)
    → (0 < length xs) × fits_many (after c a) xs → Stops (more_many (is_one c) (after c a) xs) rest
    → read_list c a (words_list c a xs ++ rest) ≡ Ok (xs, rest)
list-again c a p xs rest fit stop =
    sym (shifted c a p.word (words_list c a xs ++ rest))
    ∙ ap (λ w. (many (is_one c) (after c a)).read (w ++ rest)) (sym (joined c a xs fit.0))
    ∙ (rest-law c a p).again xs rest fit.1 stop

list-fault : {A : Type 0} (c : Class (Unit {0})) (a : Syntax A) → Parted c a → (ts : List Word) (left : ℕ)
    → read_list c a ts ≡ Err left → Faults (list_of c a) ts left
list-fault {A = A} c a p ts left e = by_front f.front f.rest f.parts f.size f.begins f.stays
  where
    f : Faults (many (is_one c) (after c a)) (c.word tt ∷ ts) left
    f = (rest-law c a p).fault (c.word tt ∷ ts) left (shifted c a p.word ts ∙ e)

    by_front : (front rest : List Word) → c.word tt ∷ ts ≡ front ++ rest → length rest ≡ left
        → words_many (after c a) f.value ≡ front ++ f.tail
        → ((d : Word) (r x : List Word) → rest ≡ d ∷ r
        → (many (is_one c) (after c a)).read (front ++ d ∷ x) ≡ Err (suc (length x))) → Faults (list_of c a) ts left
    by_front [] rest same size begins stays =
        let one : (many (is_one c) (after c a)).read ((c.word tt ∷ a.words p.law.some ++ []) ++ [])
        ≡ Ok (p.law.some ∷ [], []) = (rest-law c a p).again (p.law.some ∷ []) [] (p.law.fits, tt) tt in
        let bad = stays (c.word tt) ts ((a.words p.law.some ++ []) ++ []) (sym same) in
        absurd (differ (p.law.some ∷ [], []) _ (sym one ∙ bad))
    by_front (d ∷ front) rest same size begins stays =
        let heads : c.word tt ≡ d = cc in
        let tails : ts ≡ front ++ rest = cc in
        let some = some-items c a p.word f.value front f.tail (begins ∙ ap (λ w. w ∷ front ++ f.tail) (sym heads)) in
        record {
          front = front;
          rest = rest;
          parts = tails;
          size = size;
          value = f.value;
          fits = (some.0, f.fits);
          tail = f.tail;
          begins = some.1;
          stays = λ d2 r x h. sym (shifted c a p.word (front ++ d2 ∷ x))
              ∙ ap (λ w. (many (is_one c) (after c a)).read (w ∷ front ++ d2 ∷ x)) heads ∙ stays d2 r x h;
        }

pub list-law : {A : Type 0} (c : Class (Unit {0})) (a : Syntax A) → Parted c a → Lawful (list_of c a)
list-law c a p = record {
  some = p.law.some ∷ [];
  fits = (omega arith, (p.law.fits, tt));
  takes = list-takes c a p;
  again = list-again c a p;
  fault = list-fault c a p;
}

-- what goes on neither an item nor as the word between
pub list-end : {A : Type 0} (c : Class (Unit {0})) (a : Syntax A) (d : Word) → is_one c d ≡ false
    → ((x : A) → a.fits x → a.more x d ≡ false) → (xs : List A) → fits_many (after c a) xs
    → more_many (is_one c) (after c a) xs d ≡ false
list-end c a d h each [] f = h
list-end c a d h each (x ∷ []) f = rw (h, each x f.0) refl
list-end c a d h each (x ∷ y ∷ ys) f = list-end c a d h each (y ∷ ys) f.1

-- what no item begins with, no list of them begins with
pub list-not : {A : Type 0} (c : Class (Unit {0})) (a : Syntax A) (test : Word → Bool)
    → ((x : A) → a.fits x → BeginsNot test (a.words x)) → (xs : List A) → (list_of c a).fits xs
    → BeginsNot test (words_list c a xs)
list-not c a test each [] f = absurd (omega arith)
list-not c a test each (x ∷ xs) f = BeginsNot-append test (a.words x) (words_many (after c a) xs) (each x f.1.0)

lexemes-tail : (w : Word) (ws : List Word) → are_lexemes (w ∷ ws) ≡ true → are_lexemes ws ≡ true
lexemes-tail w ws h = cut (is_lexeme w) (are_lexemes ws) h
  where
    cut : (b c : Bool) → (b && c) ≡ true → c ≡ true
    cut true c h = h
    cut false c h = absurd cc

pub list-inner : {A : Type 0} (c : Class (Unit {0})) (a : Syntax A) → is_lexeme (c.word tt) ≡ true → Inner a
    → Inner (list_of c a)
list-inner c a h ia = record {
  inner = λ xs f. lexemes-tail (c.word tt) (words_list c a xs)
      (ap are_lexemes (sym (joined c a xs f.0)) ∙ (many-inner (is_one c) (after c a) (after-inner c a h ia)).inner xs f.1);
}
