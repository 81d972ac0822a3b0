-- The spans count the words of the grammar, so each flaw's number is that of the token at which it stands.
use Rattle.std.proofs.Common.{◌≡◌, ℕ, ◌+◌, Bool, true, false, List, [], ◌∷◌, ◌++◌, length, refl, arith, length-append}
use Rattle.cyc_lex.specs.Word.{Word}
use Rattle.cyc_grammar.specs.Syntax.{Syntax, Class, many, after, words_many, fits_many, list1}
use Rattle.heap_syntax.specs.declared.tree.PureTree.{PureTree}
use Rattle.heap_syntax.specs.Trees.{Spatial, Cell, Predicate, Heap}
use Rattle.heap_syntax.specs.Words.{comma, colon, star, arrow, opening, closing}
use Rattle.heap_syntax.specs.Grammar.{Terms, listed, sign, some_pure, pure, pures, pures1, fields, arguments, predicate}
use Rattle.heap_syntax.specs.Grammar.{cell, spatial, some_spatial, spatials, spatials1, heap, some_heap, heaps}
use Rattle.heap_reader.specs.Spans.{total, total_or, pure_span, pures_span, spatial_span, spatials_span, heap_span}

-- ---- lists

-- members with a word before each
behind_each : {A : Type 0} (c : Class (Unit {0})) (a : Syntax A) (span : A → ℕ)
    → ((x : A) → a.fits x → length (a.words x) + 1 ≡ span x) → (xs : List A) → fits_many (after c a) xs
    → length (words_many (after c a) xs) ≡ total span xs
behind_each c a span one [] f = refl
behind_each c a span one (x ∷ xs) f =
    let h = one x f.0 in
    let r = behind_each c a span one xs f.1 in
    let l = length-append (c.word tt ∷ a.words x) (words_many (after c a) xs) in
    omega arith

-- members with a word between neighbours
pub between : {A : Type 0} (default : A) (c : Class (Unit {0})) (a : Syntax A) (span : A → ℕ)
    → ((x : A) → a.fits x → length (a.words x) + 1 ≡ span x) → (xs : List A) → (list1 default c a).fits xs
    → length ((list1 default c a).words xs) + 1 ≡ total span xs
between default c a span one [] f = absurd (omega (arith, f.0))
between default c a span one (x ∷ xs) f =
    let h = one x f.1.0 in
    let r = behind_each c a span one xs f.1.1 in
    let l = length-append (a.words x) (words_many (after c a) xs) in
    omega arith

-- members with a word between neighbours and one after the last
pub listed_words : {A : Type 0} (default : A) (c behind : Class (Unit {0})) (a : Syntax A) (span : A → ℕ)
    → ((x : A) → a.fits x → length (a.words x) + 1 ≡ span x) → (xs : List A) → (listed default c behind a).fits xs
    → length ((listed default c behind a).words xs) ≡ total span xs
unfolding listed
listed_words default c behind a span one [] f = absurd (omega (arith, f.0))
listed_words default c behind a span one (x ∷ xs) f =
    let h = one x f.1.0 in
    let r = behind_each c a span one xs f.1.1 in
    let l = length-append (words_many (after c a) xs) (behind.word tt ∷ []) in
    let k = length-append (a.words x) (words_many (after c a) xs ++ behind.word tt ∷ []) in
    omega arith

-- members that stand alone
pub alone : {A : Type 0} (test : Word → Bool) (a : Syntax A) (span : A → ℕ)
    → ((x : A) → a.fits x → length (a.words x) ≡ span x) → (xs : List A) → (many test a).fits xs
    → length ((many test a).words xs) ≡ total span xs
alone test a span one [] f = refl
alone test a span one (x ∷ xs) f =
    let h = one x f.0 in
    let r = alone test a span one xs f.1 in
    let l = length-append (a.words x) (words_many a xs) in
    omega arith

-- ---- heaps

pub sign_words : (b : Bool) → length (sign.words b) ≡ 1
unfolding sign
sign_words true = refl
sign_words false = refl

module _ {T : Type 0} (t : Terms T) (span : T → ℕ)
    (term_words : (x : T) → t.syntax.fits x → length (t.syntax.words x) + 1 ≡ span x) where
  pure_words : (x : PureTree T) → (pure t.syntax).fits x → length ((pure t.syntax).words x) + 1 ≡ pure_span span x
  unfolding pure
  pure_words x f =
      let l = term_words x.left f.1.0 in
      let s = sign_words x.is_equation in
      let r = term_words x.right f.1.1.1 in
      let p = length-append (sign.words x.is_equation) (t.syntax.words x.right) in
      let q = length-append (t.syntax.words x.left) (sign.words x.is_equation ++ t.syntax.words x.right) in
      omega arith

  pures_words : (xs : List (PureTree T)) → (pures t).fits xs → length ((pures t).words xs) ≡ pures_span span xs
  unfolding pures pures1
  pures_words [] f = refl
  pures_words (x ∷ xs) f = listed_words (some_pure t) comma colon (pure t.syntax) (pure_span span) pure_words (x ∷ xs)
      f.1

  fields_words : (ts : List T) → (fields t).fits ts → length ((fields t).words ts) ≡ total span ts
  unfolding fields
  fields_words ts f = listed_words t.some comma closing t.syntax span term_words ts f

  arguments_words : (ts : List T) → (arguments t).fits ts → length ((arguments t).words ts) ≡ total_or 1 span ts
  unfolding arguments
  arguments_words [] f = refl
  arguments_words (x ∷ xs) f = fields_words (x ∷ xs) f.1

  -- where no term begins with a name
  pub spatial_words : (x : Spatial T) → (spatial t).fits x → length ((spatial t).words x) + 1 ≡ spatial_span span x
  unfolding spatial cell predicate
  spatial_words (Cell x ts) f =
      let a = term_words x f.1.0 in
      let r = fields_words ts f.1.1 in
      let l = length-append (t.syntax.words x) (arrow.word tt ∷ (opening.word tt ∷ (fields t).words ts)) in
      omega arith
  spatial_words (Predicate name ts) f = let r = arguments_words ts f.1.1 in omega arith

  module _ (atom : Syntax (Spatial T)) (atom_words : (x : Spatial T) → atom.fits x
      → length (atom.words x) + 1 ≡ spatial_span span x) where
    spatials_words : (xs : List (Spatial T)) → (spatials t atom).fits xs
        → length ((spatials t atom).words xs) + 1 ≡ spatials_span span xs
    unfolding spatials spatials1
    spatials_words [] f = refl
    spatials_words (x ∷ xs) f = between (some_spatial t) star atom (spatial_span span) atom_words (x ∷ xs) f.1

    pub heap_words : (h : Heap T) → (heap t atom).fits h → length ((heap t atom).words h) + 1 ≡ heap_span span h
    unfolding heap
    heap_words h f =
        let p = pures_words h.pure f.1.0 in
        let s = spatials_words h.spatial f.1.1 in
        let l = length-append ((pures t).words h.pure) ((spatials t atom).words h.spatial) in
        omega arith

    pub heaps_words : (c behind : Class (Unit {0})) (hs : List (Heap T)) → (heaps c behind (heap t atom)).fits hs
        → length ((heaps c behind (heap t atom)).words hs) ≡ total (heap_span span) hs
    heaps_words c behind hs f = listed_words some_heap c behind (heap t atom) (heap_span span) heap_words hs f
