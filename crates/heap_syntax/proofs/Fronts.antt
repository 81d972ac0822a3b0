-- What is kept of what is read is its front.
use Rattle.std.proofs.Common.{◌≡◌, ℕ, zero, suc, Bool, true, false, cond, List, [], ◌∷◌, length, Ok, Err, refl, ap, ◌∙◌}
use Rattle.std.proofs.Common.{inl, inr, ◌⊎◌}
use Rattle.std.specs.Prelude.{map}
use Rattle.cyc_lex.specs.Word.{Word}
use Rattle.cyc_grammar.specs.Syntax.{Reading, ◌>>=◌, Syntax, Class, read_class, one, seq, begins, alt, read_many, many}
use Rattle.cyc_grammar.specs.Syntax.{shaped, after, before, is_one, uncons, join_empty, split_empty}
use Rattle.heap_syntax.specs.declared.keep.Keep.{Keep}
use Rattle.heap_syntax.specs.declared.tree.PureTree.{PureTree}
use Rattle.heap_syntax.specs.Trees.{Spatial, Heap}
use Rattle.heap_syntax.specs.Keeping.{others, members, heap_front, heaps_front, others_kept}
use Rattle.heap_syntax.specs.Words.{true_word, emp, comma, colon, star}
use Rattle.heap_syntax.specs.Grammar.{Any, cons, IsSome, more_listed, listed, kept_listed, Terms, pure, some_pure}
use Rattle.heap_syntax.specs.Grammar.{pures1, pures, kept_pures, some_spatial, spatials1, spatials, kept_spatials}
use Rattle.heap_syntax.specs.Grammar.{to_heap, from_heap, heap, kept_heap, some_heap, heaps, kept_heaps}
use Rattle.heap_syntax.proofs.KeepingLaws.{others-read}

-- ---- how readings go on

abbrev pub mapped : {A B : Type 0} → (A → B) → A × List Word → Reading B
mapped f x = Ok (f x.0, x.1)

abbrev paired : {A B : Type 0} → A → B × List Word → Reading (A × B)
paired x y = Ok ((x, y.0), y.1)

abbrev with_second : {A B : Type 0} → Syntax B → A × List Word → Reading (A × B)
with_second b x = b.read x.1 >>= paired x.0

abbrev held : {A B : Type 0} → A → B × List Word → Reading A
held x y = Ok (x, y.1)

abbrev with_last : {A : Type 0} → Class (Unit {0}) → A × List Word → Reading A
with_last w x = read_class w x.1 >>= held x.0

abbrev with_first : {A : Type 0} → A → List A × List Word → Reading (List A)
with_first x y = Ok (x ∷ y.0, y.1)

abbrev with_more : {A : Type 0} → (Word → Bool) → Syntax A → ℕ → A × List Word → Reading (List A)
with_more test a n x = read_many test a n x.1 >>= with_first x.0

abbrev none_read : {A : Type 0} → List Word → Reading (List A)
none_read ws = Ok ([], ws)

-- b reads what a reads, of which f makes the value
pub record Fronts {A B : Type 0} (f : A → B) (a : Syntax A) (b : Syntax B) : Type 0 where
  pub reads : (ws : List Word) → b.read ws ≡ (a.read ws >>= mapped f)

pub same-front : {A : Type 0} (a : Syntax A) → Fronts (λ x. x) a a
same-front {A = A} a = record { reads = λ ws. by (a.read ws) }
  where
    by : (r : Reading A) → r ≡ (r >>= mapped (λ x. x))
    by (Ok x) = refl
    by (Err left) = refl

pub then-front : {A B C : Type 0} (f : A → B) (g : B → C) (a : Syntax A) (b : Syntax B) (c : Syntax C) → Fronts f a b
    → Fronts g b c → Fronts (λ x. g (f x)) a c
then-front {A = A} f g a b c p q = record {
  reads = λ ws. q.reads ws ∙ ap (λ r. r >>= mapped g) (p.reads ws)
      ∙ by (a.read ws);
}
  where
    by : (r : Reading A) → ((r >>= mapped f) >>= mapped g) ≡ (r >>= mapped (λ x. g (f x)))
    by (Ok x) = refl
    by (Err left) = refl

pub seq-front : {A B C D : Type 0} (f : A → C) (g : B → D) (a : Syntax A) (b : Syntax B) (c : Syntax C) (d : Syntax D)
    → Fronts f a c → Fronts g b d → Fronts (λ p. (f p.0, g p.1)) (seq a b) (seq c d)
seq-front {A = A} {B = B} {C = C} {D = D} f g a b c d p q = record
    { reads = λ ws. ap (λ r. r >>= with_second d) (p.reads ws) ∙ by (a.read ws) }
  where
    pair : A × B → C × D
    pair p = (f p.0, g p.1)

    second : (x : A) (r : Reading B) → ((r >>= mapped g) >>= paired (f x)) ≡ ((r >>= paired x) >>= mapped pair)
    second x (Ok y) = refl
    second x (Err left) = refl

    by : (r : Reading A) → ((r >>= mapped f) >>= with_second d) ≡ ((r >>= with_second b) >>= mapped pair)
    by (Ok x) = ap (λ s. s >>= paired (f x.0)) (q.reads x.1) ∙ second x.0 (b.read x.1)
    by (Err left) = refl

abbrev pub both : {A B C D : Type 0} → (A → C) → (B → D) → A ⊎ B → C ⊎ D
both f g (inl x) = inl (f x)
both f g (inr y) = inr (g y)

pub alt-front : {A B C D : Type 0} (test : Word → Bool) (f : A → C) (g : B → D) (a : Syntax A) (b : Syntax B)
    (c : Syntax C) (d : Syntax D) → Fronts f a c → Fronts g b d → Fronts (both f g) (alt test a b) (alt test c d)
alt-front {A = A} {B = B} {C = C} {D = D} test f g a b c d p q = record { reads = λ ws. by ws (begins test ws) }
  where
    first : (r : Reading A) → ((r >>= mapped f) >>= mapped {B = C ⊎ D} (λ x. inl x))
        ≡ ((r >>= mapped {B = A ⊎ B} (λ x. inl x)) >>= mapped (both f g))
    first (Ok x) = refl
    first (Err left) = refl

    second : (r : Reading B) → ((r >>= mapped g) >>= mapped {B = C ⊎ D} (λ x. inr x))
        ≡ ((r >>= mapped {B = A ⊎ B} (λ x. inr x)) >>= mapped (both f g))
    second (Ok x) = refl
    second (Err left) = refl

    by : (ws : List Word) (t : Bool) → cond t (c.read ws >>= mapped {B = C ⊎ D} (λ x. inl x))
        (d.read ws >>= mapped {B = C ⊎ D} (λ x. inr x)) ≡ (cond t (a.read ws >>= mapped {B = A ⊎ B} (λ x. inl x))
        (b.read ws >>= mapped {B = A ⊎ B} (λ x. inr x)) >>= mapped (both f g))
    by ws true = ap (λ r. r >>= mapped {B = C ⊎ D} (λ x. inl x)) (p.reads ws) ∙ first (a.read ws)
    by ws false = ap (λ r. r >>= mapped {B = C ⊎ D} (λ x. inr x)) (q.reads ws) ∙ second (b.read ws)

pub shaped-front : {A B C D : Type 0} (f : A → C) (g : B → D) (to : A → B) (back : B → A) (P : B → Type 0) (to' : C → D)
    (back' : D → C) (P' : D → Type 0) (a : Syntax A) (c : Syntax C)
    → ((x : A) → to' (f x) ≡ g (to x)) → Fronts f a c → Fronts g (shaped to back P a) (shaped to' back' P' c)
shaped-front {A = A} {D = D} f g to back P to' back' P' a c same p = record
    { reads = λ ws. ap (λ r. r >>= mapped to') (p.reads ws) ∙ by (a.read ws) }
  where
    by : (r : Reading A) → ((r >>= mapped f) >>= mapped to') ≡ ((r >>= mapped to) >>= mapped g)
    by (Ok x) = ap (λ (y : D). Ok (y, x.1)) (same x.0)
    by (Err left) = refl

pub after-front : {A B : Type 0} (w : Class (Unit {0})) (f : A → B) (a : Syntax A) (b : Syntax B) → Fronts f a b
    → Fronts f (after w a) (after w b)
after-front w f a b p = record { reads = λ ws. by (read_class w ws) }
  where
    by : (r : Reading (Unit {0})) → (r >>= λ x. b.read x.1) ≡ ((r >>= λ x. a.read x.1) >>= mapped f)
    by (Ok x) = p.reads x.1
    by (Err left) = refl

pub before-front : {A B : Type 0} (w : Class (Unit {0})) (f : A → B) (a : Syntax A) (b : Syntax B) → Fronts f a b
    → Fronts f (before a w) (before b w)
before-front {A = A} w f a b p = record { reads = λ ws. ap (λ r. r >>= with_last w) (p.reads ws) ∙ by (a.read ws) }
  where
    last : (x : A) (r : Reading (Unit {0})) → (r >>= held (f x)) ≡ ((r >>= held x) >>= mapped f)
    last x (Ok y) = refl
    last x (Err left) = refl

    by : (r : Reading A) → ((r >>= mapped f) >>= with_last w) ≡ ((r >>= with_last w) >>= mapped f)
    by (Ok x) = last x.0 (read_class w x.1)
    by (Err left) = refl

pub many-front : {A B : Type 0} (test : Word → Bool) (f : A → B) (a : Syntax A) (b : Syntax B) → Fronts f a b
    → Fronts (map f) (many test a) (many test b)
many-front {A = A} {B = B} test f a b p = record { reads = λ ws. by (length ws) ws }
  where
    more : (x : A) (r : Reading (List A)) → ((r >>= mapped (map f)) >>= with_first (f x))
        ≡ ((r >>= with_first x) >>= mapped (map f))
    more x (Ok y) = refl
    more x (Err left) = refl

    none : (ws : List Word) (t : Bool) → cond t (Err (length ws)) (none_read {A = B} ws)
        ≡ (cond t (Err (length ws)) (none_read {A = A} ws) >>= mapped (map f))
    none ws true = refl
    none ws false = refl

    item : (n : ℕ) → ((ws : List Word) → read_many test b n ws ≡ (read_many test a n ws >>= mapped (map f)))
        → (r : Reading A) → ((r >>= mapped f) >>= with_more test b n) ≡ ((r >>= with_more test a n) >>= mapped (map f))
    item n later (Ok x) = ap (λ r. r >>= with_first (f x.0)) (later x.1) ∙ more x.0 (read_many test a n x.1)
    item n later (Err left) = refl

    at : (n : ℕ) → ((ws : List Word) → read_many test b n ws ≡ (read_many test a n ws >>= mapped (map f)))
        → (ws : List Word) (t : Bool) → cond t (b.read ws >>= with_more test b n) (none_read ws)
        ≡ (cond t (a.read ws >>= with_more test a n) (none_read ws) >>= mapped (map f))
    at n later ws true = ap (λ r. r >>= with_more test b n) (p.reads ws) ∙ item n later (a.read ws)
    at n later ws false = refl

    by : (n : ℕ) (ws : List Word) → read_many test b n ws ≡ (read_many test a n ws >>= mapped (map f))
    by zero ws = none ws (begins test ws)
    by (suc n) ws = at n (by n) ws (begins test ws)

pub others-front : {A : Type 0} (k : Keep) (s : Syntax (List A)) → Fronts (others k) s (others_kept k s)
others-front k s = record { reads = others-read k s }

-- ---- the lists of heaps

pub listed-front : {A B : Type 0} (k : Keep) (d : A) (e : B) (m n : Class (Unit {0})) (f : A → B) (a : Syntax A)
    (b : Syntax B) → Fronts f a b → Fronts (λ xs. members k (map f xs)) (listed d m n a) (kept_listed k e m n b)
unfolding listed kept_listed
listed-front {A = A} {B = B} k d e m n f a b p =
    shaped-front {A = A × List A} {C = B × List B} (λ x. (f x.0, others k (map f x.1))) (λ xs. members k (map f xs))
    cons (uncons d) IsSome cons (uncons e) IsSome _ _ (λ x. refl)
    (seq-front f (λ xs. others k (map f xs)) a _ b _ p
    (before-front n (λ xs. others k (map f xs)) (more_listed m a) (others_kept k (more_listed m b))
    (then-front (map f) (others k) (more_listed m a) (more_listed m b) (others_kept k (more_listed m b))
    (many-front (is_one m) f (after m a) (after m b) (after-front m f a b p)) (others-front k (more_listed m b)))))

pub members-front : {A : Type 0} (k : Keep) (d : A) (m n : Class (Unit {0})) (a : Syntax A)
    → Fronts (members k) (listed d m n a) (kept_listed k d m n a)
unfolding listed kept_listed
members-front {A = A} k d m n a =
    shaped-front {A = A × List A} {C = A × List A} (λ x. (x.0, others k x.1)) (members k) cons (uncons d) IsSome cons
    (uncons d) IsSome _ _ (λ x. refl)
    (seq-front (λ x. x) (others k) a _ a _ (same-front a)
    (before-front n (others k) (more_listed m a) (others_kept k (more_listed m a))
    (others-front k (more_listed m a))))

pub pures-front : {T : Type 0} (k : Keep) (t : Terms T) → Fronts (members k) (pures t) (kept_pures k t)
unfolding pures pures1 kept_pures
pures-front {T = T} k t =
    shaped-front {A = Unit {0} ⊎ List (PureTree T)} {C = Unit {0} ⊎ List (PureTree T)} (both (λ u. u) (members k))
    (members k) join_empty split_empty Any join_empty split_empty Any _ _ same
    (alt-front (is_one true_word) (λ u. u) (members k) (after true_word (one colon))
    (listed (some_pure t) comma colon (pure t.syntax)) (after true_word (one colon))
    (kept_listed k (some_pure t) comma colon (pure t.syntax))
    (same-front (after true_word (one colon))) (members-front k (some_pure t) comma colon (pure t.syntax)))
  where
    same : (x : Unit {0} ⊎ List (PureTree T)) → join_empty (both (λ u. u) (members k) x) ≡ members k (join_empty x)
    same (inl u) = refl
    same (inr xs) = refl

pub spatials-front : {T : Type 0} (k : Keep) (t : Terms T) (atom : Syntax (Spatial T))
    → Fronts (members k) (spatials t atom) (kept_spatials k t atom)
unfolding spatials spatials1 kept_spatials
spatials-front {T = T} k t atom =
    shaped-front {A = Unit {0} ⊎ List (Spatial T)} {C = Unit {0} ⊎ List (Spatial T)} (both (λ u. u) (members k))
    (members k) join_empty split_empty (λ xs. Unit {0}) join_empty split_empty (λ xs. Unit {0}) _ _ same
    (alt-front (is_one emp) (λ u. u) (members k) (one emp) _ (one emp) _ (same-front (one emp))
    (shaped-front {A = Spatial T × List (Spatial T)} {C = Spatial T × List (Spatial T)} (λ x. (x.0, others k x.1))
    (members k) cons (uncons (some_spatial t)) IsSome cons (uncons (some_spatial t)) IsSome _ _ (λ x. refl)
    (seq-front (λ x. x) (others k) atom (more_listed star atom) atom (others_kept k (more_listed star atom))
    (same-front atom) (others-front k (more_listed star atom)))))
  where
    same : (x : Unit {0} ⊎ List (Spatial T)) → join_empty (both (λ u. u) (members k) x) ≡ members k (join_empty x)
    same (inl u) = refl
    same (inr xs) = refl

pub heap-front : {T : Type 0} (k : Keep) (t : Terms T) (atom : Syntax (Spatial T))
    → Fronts (heap_front k) (heap t atom) (kept_heap k t atom)
unfolding heap kept_heap
heap-front {T = T} k t atom =
    shaped-front {A = List (PureTree T) × List (Spatial T)} {C = List (PureTree T) × List (Spatial T)}
    (λ x. (members k x.0, members k x.1)) (heap_front k) to_heap from_heap Any to_heap from_heap Any _ _ (λ x. refl)
    (seq-front (members k) (members k) (pures t) (spatials t atom) (kept_pures k t) (kept_spatials k t atom)
    (pures-front k t) (spatials-front k t atom))

pub heaps-front : {T : Type 0} (k : Keep) (m n : Class (Unit {0})) (h kept : Syntax (Heap T))
    → Fronts (heap_front k) h kept → Fronts (heaps_front k) (heaps m n h) (kept_heaps k m n kept)
heaps-front k m n h kept p = listed-front k some_heap some_heap m n (heap_front k) h kept p
