-- Reading a text statement by statement: what is read of a statement's words stays so, whatever follows.
use Rattle.std.proofs.Common.{◌≡◌, ℕ, zero, suc, ◌+◌, ◌≤◌, ◌<◌, Bool, true, false, cond, List, [], ◌∷◌, ◌++◌, length}
use Rattle.std.proofs.Common.{Ok, Err, refl, sym, ap, ◌∙◌, append_assoc, arith, length-append}
use Rattle.std.proofs.lemmas.List.{append-nil}
use Rattle.cyc_lex.specs.Word.{Word}
use Rattle.cyc_grammar.specs.Syntax.{Reading, ◌>>=◌, Syntax, begins, read_many, many}
use Rattle.cyc_grammar.proofs.Laws.{Stops, Lawful, Faults}

-- a statement that has been read is read alike before more words; nothing goes on what it completes, since it ends in
-- its ';'
pub statement-stays : {T : Type 0} (s : Syntax T) → Lawful s → (ws more : List Word) (t : T) → s.read ws ≡ Ok (t, [])
    → ((d : Word) → s.more t d ≡ false) → s.read (ws ++ more) ≡ Ok (t, more)
statement-stays s law ws more t e closed =
    let h = law.takes ws (t, []) e in
    let same : ws ≡ s.words t = h.0 ∙ append-nil (s.words t) in
    ap (λ (x : List Word). s.read (x ++ more)) same ∙ law.again t more h.2 (by more)
  where
    by : (xs : List Word) → Stops (s.more t) xs
    by [] = tt
    by (d ∷ xs) = closed d

-- a word at which a statement dies is dead whatever follows: so the fault is found at its ';' at the latest
pub fault-stays : {T : Type 0} (s : Syntax T) → Lawful s → (ws more : List Word) (left : ℕ) → s.read ws ≡ Err (suc left)
    → s.read (ws ++ more) ≡ Err (suc (left + length more))
fault-stays s law ws more left e = by (law.fault ws (suc left) e) (law.fault ws (suc left) e).rest refl
  where
    by : (f : Faults s ws (suc left)) (rest : List Word) → f.rest ≡ rest
        → s.read (ws ++ more) ≡ Err (suc (left + length more))
    by f [] is = absurd (omega (arith, f.size, ap length is))
    by f (d ∷ r) is =
        let whole : ws ++ more ≡ f.front ++ d ∷ (r ++ more) = ap (λ (x : List Word). x ++ more)
        (f.parts ∙ ap (λ (x : List Word). f.front ++ x) is) ∙ append_assoc f.front (d ∷ r) more in
        let size : suc (length (r ++ more)) ≡ suc (left + length more) = omega
        (arith, f.size, ap length is, length-append r more) in
        ap s.read whole ∙ f.stays d r (r ++ more) is ∙ ap (λ n. Err n) size

-- ---- a list of statements is one, and the list after it

-- each text of a has a word
abbrev pub HasWords : {A : Type 0} → Syntax A → Type 0
HasWords {A = A} a = (x : A) → a.fits x → 0 < length (a.words x)

-- one more at the front of a list
abbrev pub with_first : {A : Type 0} → A → Reading (List A) → Reading (List A)
with_first t r = r >>= λ y. Ok (t ∷ y.0, y.1)

-- more turns than there are words change nothing
enough-turns : {A : Type 0} (test : Word → Bool) (a : Syntax A) → Lawful a → HasWords a → (n m : ℕ) (ws : List Word)
    → length ws ≤ n → length ws ≤ m → read_many test a n ws ≡ read_many test a m ws
enough-turns {A = A} test a law some zero zero ws h k = refl
enough-turns {A = A} test a law some zero (suc m) [] h k = refl
enough-turns {A = A} test a law some zero (suc m) (d ∷ ws) h k = absurd (omega (arith, h))
enough-turns {A = A} test a law some (suc n) zero [] h k = refl
enough-turns {A = A} test a law some (suc n) zero (d ∷ ws) h k = absurd (omega (arith, k))
enough-turns {A = A} test a law some (suc n) (suc m) ws h k = by (a.read ws) refl (enough-turns test a law some n m)
  where
    shorter : (x : A × List Word) → a.read ws ≡ Ok x → suc (length x.1) ≤ length ws
    shorter x e = let t = law.takes ws x e in omega (
      arith,
      ap length t.0,
      length-append (a.words x.0) x.1,
      some x.0 t.2,
    )

    by : (r : Reading A) → a.read ws ≡ r → ((vs : List Word) → length vs ≤ n → length vs ≤ m
        → read_many test a n vs ≡ read_many test a m vs) → read_many test a (suc n) ws ≡ read_many test a (suc m) ws
    by (Err left) e again = ap (λ (r : Reading (List A)). cond (begins test ws) r (Ok ([], ws)))
        (ap (λ (q : Reading A). q >>= λ x. read_many test a n x.1 >>= λ y. Ok (x.0 ∷ y.0, y.1)) e
        ∙ sym (ap (λ (q : Reading A). q >>= λ x. read_many test a m x.1 >>= λ y. Ok (x.0 ∷ y.0, y.1)) e))
    by (Ok x) e again =
        let s = shorter x e in
        let same = again x.1 (omega (arith, s, h)) (omega (arith, s, k)) in
        ap (λ (r : Reading (List A)). cond (begins test ws) r (Ok ([], ws))) (
        ap (λ (q : Reading A). q >>= λ x. read_many test a n x.1 >>= λ y. Ok (x.0 ∷ y.0, y.1)) e
        ∙ ap (λ (q : Reading (List A)). q >>= λ y. Ok (x.0 ∷ y.0, y.1)) same
        ∙ sym (ap (λ (q : Reading A). q >>= λ x. read_many test a m x.1 >>= λ y. Ok (x.0 ∷ y.0, y.1)) e))

-- where one begins
pub many-more : {A : Type 0} (test : Word → Bool) (a : Syntax A) → Lawful a → HasWords a → (ws : List Word)
    → begins test ws ≡ true → (many test a).read ws ≡ (a.read ws >>= λ x. with_first x.0 ((many test a).read x.1))
many-more {A = A} test a law some [] b = absurd cc
many-more {A = A} test a law some (d ∷ ws) b =
    ap (λ (c : Bool). cond c (a.read (d ∷ ws) >>= λ x. read_many test a (length ws) x.1 >>= λ y. Ok (x.0 ∷ y.0, y.1))
    (Ok ([], d ∷ ws))) b
    ∙ by (a.read (d ∷ ws)) refl
  where
    by : (r : Reading A) → a.read (d ∷ ws) ≡ r → (a.read (d ∷ ws) >>= λ x.
        with_first x.0 (read_many test a (length ws) x.1)) ≡
        (a.read (d ∷ ws) >>= λ x. with_first x.0 ((many test a).read x.1))
    by (Err left) e = rw e refl
    by (Ok x) e =
        let t = law.takes (d ∷ ws) x e in
        let shorter : length x.1 ≤ length ws = omega
        (arith, ap length t.0, length-append (a.words x.0) x.1, some x.0 t.2) in
        ap (λ (q : Reading A). q >>= λ z. with_first z.0 (read_many test a (length ws) z.1)) e
        ∙ ap (λ (q : Reading (List A)). with_first x.0 q)
        (enough-turns test a law some (length ws) (length x.1) x.1 shorter (omega arith))
        ∙ sym (ap (λ (q : Reading A). q >>= λ z. with_first z.0 ((many test a).read z.1)) e)

-- where none begins
pub many-none : {A : Type 0} (test : Word → Bool) (a : Syntax A) (ws : List Word) → begins test ws ≡ false
    → (many test a).read ws ≡ Ok ([], ws)
many-none test a [] b = refl
many-none test a (d ∷ ws) b = ap (λ (c : Bool). cond c (a.read (d ∷ ws) >>= λ x.
    read_many test a (length ws) x.1 >>= λ y. Ok (x.0 ∷ y.0, y.1)) (Ok ([], d ∷ ws))) b
