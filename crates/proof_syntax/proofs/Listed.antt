-- What is read of lists of statements, and of what stands after them.
use Rattle.std.proofs.Common.{◌≡◌, Bool, true, false, cond, List, [], ◌∷◌, Ok, Err, refl, ap, ◌∙◌, inl, inr, ◌⊎◌}
use Rattle.cyc_lex.specs.Word.{Word}
use Rattle.cyc_grammar.specs.Syntax.{Reading, ◌>>=◌, Syntax, Class, one, seq, begins, alt, many, after, before}
use Rattle.cyc_grammar.specs.Syntax.{read_class}
use Rattle.cyc_grammar.proofs.Laws.{Lawful, then_read}
use Rattle.proof_syntax.specs.Left.{joined}
use Rattle.proof_syntax.proofs.StatementStatements.{HasWords, with_first, many-more, many-none}

-- ---- what is read after a value

-- a word after it
abbrev pub then_word : {A : Type 0} → Class (Unit {0}) → Reading A → Reading A
then_word c q = q >>= λ x. read_class c x.1 >>= λ y. Ok (x.0, y.1)

pub word-joined : {A B : Type 0} (c : Class (Unit {0})) (f : A → B) (q : Reading A)
    → then_word c (joined f q) ≡ joined f (then_word c q)
word-joined c f (Err n) = refl
word-joined {A = A} {B = B} c f (Ok x) = by (read_class c x.1)
  where
    by : (r : Reading (Unit {0})) → (r >>= λ y. Ok (f x.0, y.1)) ≡ joined f (r >>= λ y. Ok (x.0, y.1))
    by (Err n) = refl
    by (Ok y) = refl

pub read-joined : {A B C : Type 0} (b : Syntax C) (f : A → B) (q : Reading A)
    → then_read b (joined f q) ≡ joined {A = A × C} {B = B × C} (λ p. (f p.0, p.1)) (then_read b q)
read-joined b f (Err n) = refl
read-joined {A = A} {B = B} {C = C} b f (Ok x) = by (b.read x.1)
  where
    by : (r : Reading C) → (r >>= λ y. Ok ((f x.0, y.0), y.1))
        ≡ joined {A = A × C} {B = B × C} (λ p. (f p.0, p.1)) (r >>= λ y. Ok ((x.0, y.0), y.1))
    by (Err n) = refl
    by (Ok y) = refl

pub read-value : {A B : Type 0} (b : Syntax B) (t : A) (ws : List Word)
    → then_read b (Ok (t, ws)) ≡ joined {A = B} {B = A × B} (λ y. (t, y)) (b.read ws)
read-value {A = A} {B = B} b t ws = by (b.read ws)
  where
    by : (r : Reading B) → (r >>= λ y. Ok ((t, y.0), y.1)) ≡ joined {A = B} {B = A × B} (λ y. (t, y)) r
    by (Err n) = refl
    by (Ok y) = refl

first-joined : {A : Type 0} (t : A) (q : Reading (List A)) → with_first t q ≡ joined (λ y. t ∷ y) q
first-joined t (Err n) = refl
first-joined t (Ok y) = refl

pub joined-twice : {A B C : Type 0} (g : B → C) (f : A → B) (q : Reading A)
    → joined g (joined f q) ≡ joined (λ x. g (f x)) q
joined-twice g f (Err n) = refl
joined-twice g f (Ok x) = refl

-- ---- one of two

pub alt-first : {A B C : Type 0} (test : Word → Bool) (a : Syntax A) (b : Syntax B) (ws : List Word)
    (F : (A ⊎ B) × List Word → Reading C) → begins test ws ≡ true
    → ((alt test a b).read ws >>= F) ≡ (a.read ws >>= λ x. F (inl x.0, x.1))
alt-first {A = A} {B = B} {C = C} test a b ws F h = ap
    (λ (c : Bool). cond c (a.read ws >>= λ x. Ok (inl x.0, x.1)) (b.read ws >>= λ x. Ok (inr x.0, x.1)) >>= F) h
    ∙ by (a.read ws)
  where
    by : (r : Reading A) → ((r >>= λ x. Ok (inl x.0, x.1)) >>= F) ≡ (r >>= λ x. F (inl x.0, x.1))
    by (Err n) = refl
    by (Ok x) = refl

pub alt-second : {A B C : Type 0} (test : Word → Bool) (a : Syntax A) (b : Syntax B) (ws : List Word)
    (F : (A ⊎ B) × List Word → Reading C) → begins test ws ≡ false
    → ((alt test a b).read ws >>= F) ≡ (b.read ws >>= λ x. F (inr x.0, x.1))
alt-second {A = A} {B = B} {C = C} test a b ws F h = ap
    (λ (c : Bool). cond c (a.read ws >>= λ x. Ok (inl x.0, x.1)) (b.read ws >>= λ x. Ok (inr x.0, x.1)) >>= F) h
    ∙ by (b.read ws)
  where
    by : (r : Reading B) → ((r >>= λ x. Ok (inr x.0, x.1)) >>= F) ≡ (r >>= λ x. F (inr x.0, x.1))
    by (Err n) = refl
    by (Ok x) = refl

-- ---- a list of statements, and what stands after it

pub listed-more : {A B : Type 0} (test : Word → Bool) (a : Syntax A) (b : Syntax B) (e : Class (Unit {0})) → Lawful a
    → HasWords a → (ws : List Word) → begins test ws ≡ true
    → (before (seq (many test a) b) e).read ws ≡ (a.read ws >>= λ x.
    joined {A = List A × B} {B = List A × B} (λ p. (x.0 ∷ p.0, p.1)) ((before (seq (many test a) b) e).read x.1))
listed-more {A = A} {B = B} test a b e law some ws h = ap (λ q. then_word e (then_read b q))
    (many-more test a law some ws h) ∙ by (a.read ws)
  where
    by : (r : Reading A) → then_word e (then_read b (r >>= λ x. with_first x.0 ((many test a).read x.1)))
        ≡ (r >>= λ x. joined {A = List A × B} {B = List A × B} (λ p. (x.0 ∷ p.0, p.1))
        ((before (seq (many test a) b) e).read x.1))
    by (Err n) = refl
    by (Ok x) =
        ap (λ q. then_word e (then_read b q)) (first-joined x.0 ((many test a).read x.1))
        ∙ ap (λ q. then_word e q) (read-joined b (λ y. x.0 ∷ y) ((many test a).read x.1))
        ∙ word-joined {A = List A × B} {B = List A × B} e (λ p. (x.0 ∷ p.0, p.1)) (then_read b ((many test a).read x.1))

pub listed-none : {A B : Type 0} (test : Word → Bool) (a : Syntax A) (b : Syntax B) (e : Class (Unit {0}))
    (ws : List Word) → begins test ws ≡ false
    → (before (seq (many test a) b) e).read ws ≡ joined {A = B} {B = List A × B} (λ y. ([], y)) ((before b e).read ws)
listed-none {A = A} {B = B} test a b e ws h =
    ap (λ q. then_word e (then_read b q)) (many-none test a ws h)
    ∙ ap (λ q. then_word e q) (read-value b [] ws)
    ∙ word-joined {A = B} {B = List A × B} e (λ y. ([], y)) (b.read ws)

-- the words c and s after the list, and e after those
pub ending-more : {A : Type 0} (test : Word → Bool) (a : Syntax A) (c s e : Class (Unit {0})) → Lawful a → HasWords a
    → (ws : List Word) → begins test ws ≡ true
    → (before (before (before (many test a) c) s) e).read ws
    ≡ (a.read ws >>= λ x. joined (λ y. x.0 ∷ y) ((before (before (before (many test a) c) s) e).read x.1))
ending-more {A = A} test a c s e law some ws h = ap (λ q. then_word e (then_word s (then_word c q)))
    (many-more test a law some ws h) ∙ by (a.read ws)
  where
    pushed : (t : A) (q : Reading (List A)) → then_word e (then_word s (then_word c (with_first t q)))
        ≡ joined (λ y. t ∷ y) (then_word e (then_word s (then_word c q)))
    pushed t q =
        ap (λ r. then_word e (then_word s (then_word c r))) (first-joined t q)
        ∙ ap (λ r. then_word e (then_word s r)) (word-joined c (λ y. t ∷ y) q)
        ∙ ap (λ r. then_word e r) (word-joined s (λ y. t ∷ y) (then_word c q))
        ∙ word-joined e (λ y. t ∷ y) (then_word s (then_word c q))

    by : (r : Reading A) → then_word e (then_word s (then_word c (r >>= λ x. with_first x.0 ((many test a).read x.1))))
        ≡ (r >>= λ x. joined (λ y. x.0 ∷ y) ((before (before (before (many test a) c) s) e).read x.1))
    by (Err n) = refl
    by (Ok x) = pushed x.0 ((many test a).read x.1)

pub ending-none : {A : Type 0} (test : Word → Bool) (a : Syntax A) (c s e : Class (Unit {0})) (ws : List Word)
    → begins test ws ≡ false
    → (before (before (before (many test a) c) s) e).read ws
    ≡ ((after c (one s)).read ws >>= λ x. joined {B = List A} (λ u. []) ((one e).read x.1))
ending-none {A = A} test a c s e ws h = ap (λ q. then_word e (then_word s (then_word c q))) (many-none test a ws h)
    ∙ by (read_class c ws)
  where
    end : (r : Reading (Unit {0})) → (r >>= λ y. Ok ([], y.1)) ≡ joined {B = List A} (λ u. []) r
    end (Err n) = refl
    end (Ok y) = refl

    last : (r : Reading (Unit {0})) → then_word {A = List A} e (r >>= λ y. Ok ([], y.1))
        ≡ (r >>= λ x. joined (λ u. []) (read_class e x.1))
    last (Err n) = refl
    last (Ok y) = end (read_class e y.1)

    by : (r : Reading (Unit {0})) → then_word {A = List A} e (then_word s (r >>= λ y. Ok ([], y.1)))
        ≡ ((r >>= λ x. read_class s x.1) >>= λ x. joined (λ u. []) (read_class e x.1))
    by (Err n) = refl
    by (Ok y) = last (read_class s y.1)
