-- Reading members of which so much is kept.
use Rattle.std.proofs.Common.{◌≡◌, ℕ, zero, suc, ◌-◌, ◌+◌, ◌≤◌, ◌<◌, Bool, true, false, List, [], ◌∷◌, ◌++◌, length}
use Rattle.std.proofs.Common.{take, Ok, Err, refl, sym, ap, ◌∙◌, arith, length-append}
use Rattle.std.specs.Prelude.{map, nat_le, min}
use Rattle.std.proofs.lemmas.Bool.{leb-true, leb-false}
use Rattle.std.proofs.lemmas.List.{map_push, length-map, length-take, take_all, take-append-le}
use Rattle.cyc_lex.specs.Word.{Word}
use Rattle.cyc_grammar.specs.declared.cursor.Refusal.{Refusal}
use Rattle.cyc_grammar.specs.declared.cursor.Refusal.TheVariants.{Dead, OutOfMemory}
use Rattle.cyc_grammar.specs.Syntax.{Reading, ◌>>=◌, Syntax, begins, read_many, many}
use Rattle.cyc_grammar.specs.Giving.{Fails, with_front}
use Rattle.cyc_grammar.proofs.Loop.{goes_on, ends, with_front-nil}
use Rattle.heap_syntax.proofs.Loops.{stops}
use Rattle.heap_syntax.specs.declared.keep.Keep.{Keep}
use Rattle.heap_syntax.specs.declared.keep.Keep.TheVariants.{All, Beyond}
use Rattle.heap_syntax.specs.Keeping.{others, others_kept, with_member}

-- ---- members as they come

pub member-kept : {X Y : Type 0} (seen : X → Y) (k : Keep) (items : List X) (x : X) (first : Y) (ys : List Y)
    → map seen items ≡ first ∷ others k ys
    → map seen (with_member k items x) ≡ first ∷ others k (ys ++ seen x ∷ [])
member-kept {Y = Y} seen All items x first ys h = map_push seen items x ∙ ap (λ (zs : List Y). zs ++ seen x ∷ []) h
member-kept {X = X} {Y = Y} seen (Beyond most) items x first ys h = by_test (nat_le (length items) most) refl
  where
    count : length items ≡ suc (min most (length ys))
    count = sym (length-map items seen) ∙ ap length h ∙ ap suc (length-take most ys)

    by_test : (b : Bool) → nat_le (length items) most ≡ b
        → map seen (with_member (Beyond most) items x) ≡ first ∷ take most (ys ++ seen x ∷ [])
    by_test true e =
        let few : length ys + 1 ≤ most = omega (arith, leb-true (length items) most e, count) in
        let before : take most ys ≡ ys = take_all most ys (omega (arith, few)) in
        let now : take most (ys ++ seen x ∷ []) ≡ ys ++ seen x
        ∷ [] = take_all most (ys ++ seen x ∷ []) (omega (arith, few, length-append ys (seen x ∷ []))) in
        rw (e, now) (map_push seen items x ∙ ap (λ (zs : List Y). zs ++ seen x ∷ [])
        (h ∙ ap (λ (zs : List Y). first ∷ zs) before))
    by_test false e =
        let full : most ≤ length ys = omega (arith, leb-false (length items) most e, count) in
        rw (e, take-append-le most ys (seen x ∷ []) full) h

-- what a loop knows that reads members after the first one: these were read, so much of them is kept, and the others
-- are still read
pub record IsReading {A : Type 0} (k : Keep) (test : Word → Bool) (a : Syntax A) (first : A) (words : List Word)
    (shown : List A) (count : ℕ) (left : List Word) : Type 0 where
  pub read : List A
  pub shows : shown ≡ first ∷ others k read
  pub others_read : with_front read (read_many test a count left) ≡ read_many test a (length words) words

pub reading-begins : {X Y : Type 0} (seen : X → Y) (k : Keep) (test : Word → Bool) (a : Syntax Y) (first : X)
    (words : List Word) → IsReading k test a (seen first) words (map seen (first ∷ [])) (length words - 0) words
reading-begins seen k test a first words = record {
  read = [];
  shows = none k;
  others_read = with_front-nil (read_many test a (length words - 0) words)
      ∙ ap (λ n. read_many test a n words) (omega arith);
}
  where
    none : (k : Keep) → seen first ∷ [] ≡ seen first ∷ others k []
    none All = refl
    none (Beyond zero) = refl
    none (Beyond (suc most)) = refl

pub reading-goes : {X Y : Type 0} (seen : X → Y) (k : Keep) (test : Word → Bool) (a : Syntax Y) (first : Y)
    (words : List Word) (items : List X) (i : ℕ) (left : List Word) (x : X) (rest : List Word)
    → i < length words → begins test left ≡ true → a.read left ≡ Ok (seen x, rest)
    → IsReading k test a first words (map seen items) (length words - i) left
    → IsReading k test a first words (map seen (with_member k items x)) (length words - (i + 1)) rest
reading-goes seen k test a first words items i left x rest lt begin read h = record {
  read = h.read ++ seen x ∷ [];
  shows = member-kept seen k items x first h.read h.shows;
  others_read = goes_on test a h.read (length words) i left (seen x) rest (read_many test a (length words) words)
      lt begin read h.others_read;
}

-- ---- what is kept of what is read

pub others-read : {A : Type 0} (k : Keep) (s : Syntax (List A)) (ws : List Word)
    → (others_kept k s).read ws ≡ (s.read ws >>= λ x. Ok (others k x.0, x.1))
others-read All s ws = by (s.read ws)
  where
    by : {A : Type 0} (r : Reading A) → r ≡ (r >>= λ x. Ok (x.0, x.1))
    by (Ok x) = refl
    by (Err left) = refl
others-read (Beyond most) s ws = refl

pub kept-ends : {A : Type 0} (k : Keep) (s : Syntax (List A)) (first : A) (ws : List Word) (ys shown : List A)
    (behind : List Word) → s.read ws ≡ Ok (ys, behind) → shown ≡ first ∷ others k ys
    → with_front (first ∷ []) ((others_kept k s).read ws) ≡ Ok (shown, behind)
kept-ends {A = A} k s first ws ys shown behind read same = rw (others-read k s ws, read)
    (ap (λ (zs : List A). Ok (zs, behind)) (sym same))

pub kept-fails : {A : Type 0} (k : Keep) (s : Syntax (List A)) (first : A) (ws : List Word) (e : Refusal)
    → Fails e (s.read ws) → Fails e (with_front (first ∷ []) ((others_kept k s).read ws))
kept-fails k s first ws OutOfMemory h = tt
kept-fails k s first ws (Dead left) h = rw (others-read k s ws, h) refl

pub reading-ends : {X Y : Type 0} (seen : X → Y) (k : Keep) (test : Word → Bool) (a : Syntax Y) (first : Y)
    (words : List Word) (items : List X) (count : ℕ) (left : List Word) → begins test left ≡ false
    → IsReading k test a first words (map seen items) count left
    → with_front (first ∷ []) ((others_kept k (many test a)).read words) ≡ Ok (map seen items, left)
reading-ends seen k test a first words items count left none h =
    kept-ends k (many test a) first words h.read (map seen items) left
    (stops test a h.read count left (read_many test a (length words) words) none h.others_read) h.shows

pub reading-fails : {X Y : Type 0} (seen : X → Y) (k : Keep) (test : Word → Bool) (a : Syntax Y) (first : Y)
    (words : List Word) (items : List X) (i : ℕ) (left : List Word) (e : Refusal)
    → i < length words → begins test left ≡ true → Fails e (a.read left)
    → IsReading k test a first words (map seen items) (length words - i) left
    → Fails e (with_front (first ∷ []) ((others_kept k (many test a)).read words))
reading-fails seen k test a first words items i left e lt begin fails h =
    kept-fails k (many test a) first words e (ends test a e h.read (length words) i left
    (read_many test a (length words) words) lt begin fails h.others_read)
