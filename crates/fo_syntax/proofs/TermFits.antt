-- The terms that have a text: words of one term, each of whose signs may be written.
use Rattle.std.proofs.Common.{◌≡◌, ℕ, zero, suc, ◌+◌, Bool, true, false, List, [], ◌∷◌, ◌++◌, length, refl, sym, ap}
use Rattle.std.proofs.Common.{subst, ◌∙◌, arith}
use Rattle.fo_syntax.specs.declared.terms.bracket.Awaited.{Awaited}
use Rattle.fo_syntax.specs.declared.terms.bracket.Awaited.TheVariants.{First, Next, Nothing}
use Rattle.fo_syntax.specs.Words.{free_name}
use Rattle.fo_syntax.specs.Steps.{fits_steps}
use Rattle.fo_syntax.specs.Trees.{Sign, Variable, Local, Apply, arguments_of, AreTerms}
use Rattle.fo_syntax.specs.Brackets.{Mark, Leaf, Opening, Closing, mark_of, opened, closings, behind_next, brackets}
use Rattle.fo_syntax.specs.Brackets.{counted}
use Rattle.fo_syntax.specs.Fits.{FitsSign, FitSigns}
use Rattle.fo_syntax.specs.Grammar.{leaf, named, head, first_mark, next_mark, mark, closed_in, behind_mark, within}
use Rattle.fo_syntax.specs.Grammar.{marks, application, IsTerm, term}
use Rattle.fo_syntax.proofs.BracketLaws.{total, total-opened, total-next, levels, counts-again, none-awaited}

-- ---- signs and marks

leaf-fits : (b : Bool) (s : Sign) → (leaf b).fits s → FitsSign b s
unfolding leaf
leaf-fits true (Variable n) f = f.1
leaf-fits true (Local n) f = (refl, f.1)
leaf-fits true (Apply name n) f = absurd f.0
leaf-fits false (Variable n) f = f.1
leaf-fits false (Local n) f = absurd f.0
leaf-fits false (Apply name n) f = absurd f.0

head-sign : (b : Bool) (s : Sign) → FitsSign b s → (head b).fits (mark_of s)
unfolding leaf named head
head-sign true (Variable n) f = (tt, (tt, f))
head-sign true (Local n) f = (tt, (tt, f.1))
head-sign true (Apply name n) f = (tt, f)
head-sign false (Variable n) f = (tt, (tt, f))
head-sign false (Local n) f = absurd (no f.0)
  where
    no : false ≡ true → ⊥
    no e = cc
head-sign false (Apply name n) f = (tt, f)

mark-sign : (b : Bool) (a : Awaited) (s : Sign) → FitsSign b s → (mark b a).fits (mark_of s)
unfolding first_mark next_mark
mark-sign b (First n) (Variable k) f = (tt, head-sign b (Variable k) f)
mark-sign b (First n) (Local k) f = (tt, head-sign b (Local k) f)
mark-sign b (First n) (Apply name k) f = (tt, head-sign b (Apply name k) f)
mark-sign b (Next n) (Variable k) f = (tt, head-sign b (Variable k) f)
mark-sign b (Next n) (Local k) f = (tt, head-sign b (Local k) f)
mark-sign b (Next n) (Apply name k) f = (tt, head-sign b (Apply name k) f)
mark-sign b Nothing (Variable k) f = (tt, head-sign b (Variable k) f)
mark-sign b Nothing (Local k) f = (tt, head-sign b (Local k) f)
mark-sign b Nothing (Apply name k) f = (tt, head-sign b (Apply name k) f)

mark-closing : (b : Bool) (a : Awaited) → (mark b a).fits Closing
unfolding first_mark next_mark
mark-closing b (First n) = (tt, tt)
mark-closing b (Next n) = (tt, tt)
mark-closing b Nothing = (tt, tt)

leaf-of : (b : Bool) (a : Awaited) (s : Sign) → (mark b a).fits (Leaf s) → (leaf b).fits s
unfolding first_mark next_mark head
leaf-of b (First n) s f = f.1.1
leaf-of b (Next n) s f = f.1.1
leaf-of b Nothing s f = f.1.1

name-of : (b : Bool) (a : Awaited) (name : List ℕ) → (mark b a).fits (Opening name) → free_name.fits name
unfolding first_mark next_mark head named
name-of b (First n) name f = f.1.1
name-of b (Next n) name f = f.1.1
name-of b Nothing name f = f.1.1

-- ---- brackets that are written

closed-levels : (n : ℕ) → levels (closed_in n) ≡ n
closed-levels zero = refl
closed-levels (suc n) = refl

-- where brackets are open, something is awaited
closing-step : (b : Bool) (a : Awaited) (n : ℕ) (ms : List Mark) → levels a ≡ suc n
    → ((c : Awaited) → levels c ≡ n → fits_steps (within b) c ms) → fits_steps (within b) a (Closing ∷ ms)
closing-step b (First k) n ms e rest = let same : k ≡ n = cc in
    (refl, (mark-closing b (First k), rest (closed_in k) (closed-levels k ∙ same)))
closing-step b (Next k) n ms e rest = let same : k ≡ n = cc in
    (refl, (mark-closing b (Next k), rest (closed_in k) (closed-levels k ∙ same)))
closing-step b Nothing n ms e rest = absurd cc

sign-step : (b : Bool) (a : Awaited) (s : Sign) (n : ℕ) (waits : List ℕ) (ms : List Mark) → FitsSign b s
    → levels a ≡ length (n ∷ waits) → ((c : Awaited) → levels c ≡ length (opened s (n ∷ waits))
    → fits_steps (within b) c ms) → fits_steps (within b) a (mark_of s ∷ ms)
sign-step b (First k) (Variable v) n waits ms f e rest = (refl, (mark-sign b (First k) (Variable v) f, rest (Next k) e))
sign-step b (First k) (Local v) n waits ms f e rest = (refl, (mark-sign b (First k) (Local v) f, rest (Next k) e))
sign-step b (First k) (Apply name v) n waits ms f e rest =
    (refl, (mark-sign b (First k) (Apply name v) f, rest (First (suc k)) (ap suc e)))
sign-step b (Next k) (Variable v) n waits ms f e rest = (refl, (mark-sign b (Next k) (Variable v) f, rest (Next k) e))
sign-step b (Next k) (Local v) n waits ms f e rest = (refl, (mark-sign b (Next k) (Local v) f, rest (Next k) e))
sign-step b (Next k) (Apply name v) n waits ms f e rest =
    (refl, (mark-sign b (Next k) (Apply name v) f, rest (First (suc k)) (ap suc e)))
sign-step b Nothing s n waits ms f e rest = absurd cc

-- closing brackets, and then what fits where an argument more is awaited
closings-fit : (b : Bool) (waits : List ℕ) (m : ℕ) (s : Sign) (ms : List Mark) (a : Awaited) → total waits ≡ suc m
    → FitsSign b s → levels a ≡ length waits → ((c : Awaited) → levels c ≡ length (opened s (behind_next waits))
    → fits_steps (within b) c ms) → fits_steps (within b) a (closings waits ++ mark_of s ∷ ms)
closings-fit b [] m s ms a e f l rest = absurd cc
closings-fit b (zero ∷ waits) m s ms a e f l rest =
    let t : total waits ≡ suc m = omega (arith, e) in
    closing-step b a (length waits) (closings waits ++ mark_of s ∷ ms) l
    (λ c k. closings-fit b waits m s ms c t f k rest)
closings-fit b (suc n ∷ waits) m s ms a e f l rest = sign-step b a s n waits ms f l rest

ends-fit : (b : Bool) (waits : List ℕ) (a : Awaited) → total waits ≡ 0 → levels a ≡ length waits
    → fits_steps (within b) a (closings waits)
ends-fit b [] (First n) e l = absurd cc
ends-fit b [] (Next n) e l = absurd cc
ends-fit b [] Nothing e l = refl
ends-fit b (zero ∷ waits) a e l = let t : total waits ≡ 0 = omega (arith, e) in
    closing-step b a (length waits) (closings waits) l (λ c k. ends-fit b waits c t k)
ends-fit b (suc n ∷ waits) a e l = absurd (omega (arith, e))

brackets-fit : (b : Bool) (ss : List Sign) (waits : List ℕ) (a : Awaited) → AreTerms (total waits) ss → FitSigns b ss
    → levels a ≡ length waits → fits_steps (within b) a (brackets waits ss)
brackets-fit b [] waits a h f l = ends-fit b waits a (none-awaited (total waits) h) l
brackets-fit b (s ∷ ss) waits a h f l = by_total (λ c k j. brackets-fit b ss (opened s (behind_next waits)) c k f.1 j)
    (total waits) refl h
  where
    by_total : ((c : Awaited) → AreTerms (total (opened s (behind_next waits))) ss
        → levels c ≡ length (opened s (behind_next waits)) → fits_steps (within b) c
        (brackets (opened s (behind_next waits)) ss)) → (n : ℕ) → total waits ≡ n → AreTerms n (s ∷ ss)
        → fits_steps (within b) a (brackets waits (s ∷ ss))
    by_total below zero e h = absurd h
    by_total below (suc m) e h =
        let size : m + arguments_of s ≡ total (opened s (behind_next waits)) = ap (λ k. k + arguments_of s)
        (sym (total-next waits m e)) ∙ sym (total-opened s (behind_next waits)) in
        closings-fit b waits m s (brackets (opened s (behind_next waits)) ss) a e f.0 l
        (λ c k. below c (subst (λ k. AreTerms k ss) size h) k)

counted-fits : (b : Bool) (a : Awaited) (ms : List Mark) → fits_steps (within b) a ms → FitSigns b (counted ms).0
counted-fits b a [] f = tt
counted-fits b a (Leaf s ∷ ms) f = (
  leaf-fits b s (leaf-of b a s f.1.0),
  counted-fits b (behind_mark a (Leaf s)) ms f.1.1,
)
counted-fits b a (Opening name ∷ ms) f = (
  name-of b a name f.1.0,
  counted-fits b (behind_mark a (Opening name)) ms f.1.1,
)
counted-fits b a (Closing ∷ ms) f = counted-fits b (behind_mark a Closing) ms f.1.1

one-total : (n : ℕ) (ss : List Sign) → AreTerms n ss → AreTerms (total (n ∷ [])) ss
one-total n ss h = subst (λ k. AreTerms k ss) (omega arith) h

-- ---- terms

pub application-fits : (b : Bool) (name : List ℕ) (n : ℕ) (ss : List Sign) → AreTerms n ss
    → FitSigns b (Apply name n ∷ ss) → (application b).fits (Apply name n ∷ ss)
unfolding application named marks
application-fits b name n ss h f = (h, (f.0, brackets-fit b ss (n ∷ []) (First 0) (one-total n ss h) f.1 refl))

pub application-signs : (b : Bool) (t : List Sign) → (application b).fits t → FitSigns b t
unfolding application named marks
application-signs b [] f = absurd f.0
application-signs b (Variable n ∷ ss) f = absurd f.0
application-signs b (Local n ∷ ss) f = absurd f.0
application-signs b (Apply name n ∷ ss) f =
    let back : counted (brackets (n ∷ []) ss) ≡ (ss, n ∷ []) = counts-again ss (n ∷ []) (one-total n ss f.0) in (
      f.1.0,
      subst (λ (x : List Sign). FitSigns b x) (ap (λ x. x.0) back)
          (counted-fits b (First 0) (brackets (n ∷ []) ss) f.1.1),
    )

leaf-variable : (b : Bool) (n : ℕ) → FitsSign b (Variable n) → (leaf b).fits (Variable n)
unfolding leaf
leaf-variable true n f = (tt, f)
leaf-variable false n f = (tt, f)

leaf-local : (b : Bool) (n : ℕ) → FitsSign b (Local n) → (leaf b).fits (Local n)
unfolding leaf
leaf-local true n f = (tt, f.1)
leaf-local false n f = absurd (no f.0)
  where
    no : false ≡ true → ⊥
    no e = cc

-- a term has a text where its signs may be written
pub term-fits : (b : Bool) (t : List Sign) → IsTerm t → FitSigns b t → (term b).fits t
unfolding term
term-fits b [] h f = absurd h
term-fits b (Variable n ∷ ss) h f = (h, leaf-variable b n f.0)
term-fits b (Local n ∷ ss) h f = (h, leaf-local b n f.0)
term-fits b (Apply name n ∷ ss) h f = (h, application-fits b name n ss (subst (λ k. AreTerms k ss) (omega arith) h) f)

-- and only there
pub term-signs : (b : Bool) (t : List Sign) → (term b).fits t → IsTerm t × FitSigns b t
unfolding term
term-signs b [] f = absurd f.0
term-signs b (Variable n ∷ []) f = (f.0, (leaf-fits b (Variable n) f.1, tt))
term-signs b (Variable n ∷ s ∷ ss) f = absurd f.0
term-signs b (Local n ∷ []) f = (f.0, (leaf-fits b (Local n) f.1, tt))
term-signs b (Local n ∷ s ∷ ss) f = absurd f.0
term-signs b (Apply name n ∷ ss) f = (f.0, application-signs b (Apply name n ∷ ss) f.1)
