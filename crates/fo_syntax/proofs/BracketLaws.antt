-- Counting undoes bracketing, and bracketing undoes counting.
use Rattle.std.proofs.Common.{◌≡◌, ℕ, zero, suc, ◌+◌, List, [], ◌∷◌, ◌++◌, length, refl, sym, ap, subst, ◌∙◌, arith}
use Rattle.fo_syntax.specs.declared.terms.bracket.Awaited.{Awaited}
use Rattle.fo_syntax.specs.declared.terms.bracket.Awaited.TheVariants.{First, Next, Nothing}
use Rattle.fo_syntax.specs.Trees.{Sign, Variable, Local, Apply, arguments_of, AreTerms}
use Rattle.fo_syntax.specs.Brackets.{Mark, Leaf, Opening, Closing, mark_of, opened, closings, behind_next, brackets}
use Rattle.fo_syntax.specs.Brackets.{one_more, innermost, count, counted}

-- how many terms the open brackets wait for
abbrev pub total : List ℕ → ℕ
total [] = 0
total (n ∷ ns) = n + total ns

pub total-opened : (s : Sign) (waits : List ℕ) → total (opened s waits) ≡ total waits + arguments_of s
total-opened (Variable n) waits = omega arith
total-opened (Local n) waits = omega arith
total-opened (Apply name n) waits = omega arith

pub total-next : (waits : List ℕ) (m : ℕ) → total waits ≡ suc m → total (behind_next waits) ≡ m
total-next [] m e = absurd cc
total-next (zero ∷ waits) m e = let f : total waits ≡ suc m = omega (arith, e) in total-next waits m f
total-next (suc n ∷ waits) m e = omega (arith, e)

-- ---- counting undoes bracketing

count-sign : (s : Sign) (ss : List Sign) (waits : List ℕ)
    → count (mark_of s) (ss, opened s waits) ≡ (s ∷ ss, one_more waits)
count-sign (Variable n) ss waits = refl
count-sign (Local n) ss waits = refl
count-sign (Apply name n) ss waits = refl

count-closings : (waits : List ℕ) (m : ℕ) (ms : List Mark) (ss : List Sign) → total waits ≡ suc m
    → counted ms ≡ (ss, one_more (behind_next waits)) → counted (closings waits ++ ms) ≡ (ss, waits)
count-closings [] m ms ss e h = absurd cc
count-closings (zero ∷ waits) m ms ss e h = let f : total waits ≡ suc m = omega (arith, e) in
    ap (count Closing) (count-closings waits m ms ss f h)
count-closings (suc n ∷ waits) m ms ss e h = h

count-ends : (waits : List ℕ) → total waits ≡ 0 → counted (closings waits) ≡ ([], waits)
count-ends [] e = refl
count-ends (zero ∷ waits) e = let f : total waits ≡ 0 = omega (arith, e) in ap (count Closing) (count-ends waits f)
count-ends (suc n ∷ waits) e = absurd (omega (arith, e))

-- no signs are no terms
pub none-awaited : (n : ℕ) → AreTerms n [] → n ≡ 0
none-awaited zero h = refl
none-awaited (suc n) h = absurd h

pub counts-again : (ss : List Sign) (waits : List ℕ) → AreTerms (total waits) ss
    → counted (brackets waits ss) ≡ (ss, waits)
counts-again [] waits h = count-ends waits (none-awaited (total waits) h)
counts-again (s ∷ ss) waits h = by_total (λ k. counts-again ss (opened s (behind_next waits)) k) (total waits) refl h
  where
    by_total : (AreTerms (total (opened s (behind_next waits))) ss
        → counted (brackets (opened s (behind_next waits)) ss) ≡ (ss, opened s (behind_next waits))) → (n : ℕ)
        → total waits ≡ n → AreTerms n (s ∷ ss) → counted (brackets waits (s ∷ ss)) ≡ (s ∷ ss, waits)
    by_total below zero e h = absurd h
    by_total below (suc m) e h =
        let size : m + arguments_of s ≡ total (opened s (behind_next waits)) = ap (λ k. k + arguments_of s)
        (sym (total-next waits m e)) ∙ sym (total-opened s (behind_next waits)) in
        let rest : counted (brackets (opened s (behind_next waits)) ss)
        ≡ (ss, opened s (behind_next waits)) = below (subst (λ k. AreTerms k ss) size h) in
        count-closings waits m (mark_of s ∷ brackets (opened s (behind_next waits)) ss) (s ∷ ss) e
        (ap (count (mark_of s)) rest ∙ count-sign s ss (behind_next waits))

-- ---- bracketing undoes counting

-- how many brackets are open
abbrev pub levels : Awaited → ℕ
levels (First n) = suc n
levels (Next n) = suc n
levels Nothing = 0

pub record Undone (ms : List Mark) (n : ℕ) : Type 0 where
  pub again : brackets (counted ms).1 (counted ms).0 ≡ ms
  pub open_ones : length (counted ms).1 ≡ n
  pub terms : AreTerms (total (counted ms).1) (counted ms).0

pub undone-end : Undone [] 0
undone-end = record { again = refl; open_ones = refl; terms = tt }

brackets-closing : (waits : List ℕ) (ss : List Sign) → brackets (0 ∷ waits) ss ≡ Closing ∷ brackets waits ss
brackets-closing waits [] = refl
brackets-closing waits (s ∷ ss) = refl

pub undone-closing : (ms : List Mark) (n : ℕ) → Undone ms n → Undone (Closing ∷ ms) (suc n)
undone-closing ms n u = record {
  again = brackets-closing (counted ms).1 (counted ms).0 ∙ ap (λ x. Closing ∷ x) u.again;
  open_ones = ap suc u.open_ones;
  terms = subst (λ k. AreTerms k (counted ms).0) (omega arith) u.terms;
}

-- a sign comes before marks that count to these, and leaves so many brackets open
undone-sign : (s : Sign) (ms : List Mark) (ss : List Sign) (c : ℕ) (waits : List ℕ)
    → counted ms ≡ (ss, opened s (c ∷ waits)) → brackets (opened s (c ∷ waits)) ss ≡ ms
    → AreTerms (total (opened s (c ∷ waits))) ss → Undone (mark_of s ∷ ms) (suc (length waits))
undone-sign s ms ss c waits e again terms =
    let whole : counted (mark_of s ∷ ms) ≡ (s ∷ ss, suc c ∷ waits) = ap (count (mark_of s)) e
    ∙ count-sign s ss (c ∷ waits) in
    let size : total (opened s (c ∷ waits)) ≡ (c + total waits) + arguments_of s = total-opened s (c ∷ waits) in
    record {
      again = rw whole (ap (λ x. mark_of s ∷ x) again);
      open_ones = rw whole refl;
      terms = rw whole (let more : total (suc c ∷ waits) ≡ suc (c + total waits) = omega arith in
          subst (λ k. AreTerms k (s ∷ ss)) (sym more) (subst (λ k. AreTerms k ss) size terms));
    }

pub undone-leaf : (s : Sign) (ms : List Mark) (n : ℕ) → mark_of s ≡ Leaf s → Undone ms (suc n)
    → Undone (Leaf s ∷ ms) (suc n)
undone-leaf s ms n e u = by_parts s (counted ms).0 (counted ms).1 e refl u.open_ones u.again u.terms
  where
    by_parts : (s : Sign) (ss : List Sign) (waits : List ℕ) → mark_of s ≡ Leaf s → counted ms ≡ (ss, waits)
        → length waits ≡ suc n → brackets waits ss ≡ ms → AreTerms (total waits) ss → Undone (Leaf s ∷ ms) (suc n)
    by_parts s ss [] e whole size again terms = absurd cc
    by_parts (Variable k) ss (c ∷ waits) e whole size again terms = let same : length waits ≡ n = cc in
        subst (λ j. Undone (Leaf (Variable k) ∷ ms) (suc j)) same
        (undone-sign (Variable k) ms ss c waits whole again terms)
    by_parts (Local k) ss (c ∷ waits) e whole size again terms = let same : length waits ≡ n = cc in
        subst (λ j. Undone (Leaf (Local k) ∷ ms) (suc j)) same (undone-sign (Local k) ms ss c waits whole again terms)
    by_parts (Apply name k) ss (c ∷ waits) e whole size again terms = absurd cc

pub undone-opening : (name : List ℕ) (ms : List Mark) (n : ℕ) → Undone ms (suc (suc n))
    → Undone (Opening name ∷ ms) (suc n)
undone-opening name ms n u = by_parts (counted ms).0 (counted ms).1 refl u.open_ones u.again u.terms
  where
    by_parts : (ss : List Sign) (waits : List ℕ) → counted ms ≡ (ss, waits) → length waits ≡ suc (suc n)
        → brackets waits ss ≡ ms → AreTerms (total waits) ss → Undone (Opening name ∷ ms) (suc n)
    by_parts ss [] whole size again terms = absurd cc
    by_parts ss (k ∷ []) whole size again terms = absurd cc
    by_parts ss (k ∷ c ∷ waits) whole size again terms = let same : length waits ≡ n = cc in
        subst (λ j. Undone (Opening name ∷ ms) (suc j)) same
        (undone-sign (Apply name k) ms ss c waits whole again terms)

-- the outermost bracket is left open
pub record Inside (ms : List Mark) : Type 0 where
  pub waits : (counted ms).1 ≡ innermost (counted ms).1 ∷ []
  pub again : brackets (innermost (counted ms).1 ∷ []) (counted ms).0 ≡ ms
  pub terms : AreTerms (innermost (counted ms).1) (counted ms).0

pub inside : (ms : List Mark) → Undone ms 1 → Inside ms
inside ms u = by_parts (counted ms).0 (counted ms).1 refl u.open_ones u.again u.terms
  where
    by_parts : (ss : List Sign) (waits : List ℕ) → counted ms ≡ (ss, waits) → length waits ≡ 1 → brackets waits ss ≡ ms
        → AreTerms (total waits) ss → Inside ms
    by_parts ss [] whole size again terms = absurd cc
    by_parts ss (c ∷ d ∷ waits) whole size again terms = absurd cc
    by_parts ss (c ∷ []) whole size again terms = record {
      waits = rw whole refl;
      again = rw whole again;
      terms = rw whole
          (subst (λ k. AreTerms k ss) (omega arith) terms);
    }
