-- A term has as many tokens as its text has words, and as many places as signs.
use Rattle.std.proofs.Common.{◌≡◌, ℕ, zero, suc, ◌+◌, ◌≤◌, ◌<◌, Bool, true, false, List, [], ◌∷◌, ◌++◌, length}
use Rattle.std.proofs.Common.{length-append, append_assoc, refl, sym, ap, ◌∙◌, arith}
use Rattle.fo_syntax.specs.declared.terms.bracket.Awaited.{Awaited}
use Rattle.fo_syntax.specs.declared.terms.bracket.Awaited.TheVariants.{First, Next, Nothing}
use Rattle.fo_syntax.specs.Trees.{Sign, Variable, Local, Apply}
use Rattle.fo_syntax.specs.Brackets.{Mark, Leaf, Opening, Closing, mark_of, opened, closings, behind_next, brackets}
use Rattle.fo_syntax.specs.Steps.{words_steps, fits_steps}
use Rattle.fo_syntax.specs.Grammar.{leaf, named, head, first_mark, next_mark, mark, behind_mark, within, marks}
use Rattle.fo_syntax.specs.Grammar.{application, IsTerm, term}
use Rattle.fo_syntax.specs.Places.{commas, tokens_of_mark, marks_end, sign_at, marks_at, places_of, tokens_in}

leaf-tokens : (b : Bool) (s : Sign) → (leaf b).fits s → length ((leaf b).words s) ≡ 2
unfolding leaf
leaf-tokens true (Variable n) f = refl
leaf-tokens true (Local n) f = refl
leaf-tokens true (Apply name n) f = absurd f.0
leaf-tokens false s f = refl

head-tokens : (b : Bool) (m : Mark) → (head b).fits m → length ((head b).words m) ≡ tokens_of_mark m
unfolding head named
head-tokens b (Leaf s) f = leaf-tokens b s f.1
head-tokens b (Opening name) f = refl
head-tokens b Closing f = absurd f.0

mark-tokens : (b : Bool) (a : Awaited) (m : Mark) → (mark b a).fits m
    → length ((mark b a).words m) ≡ commas a m + tokens_of_mark m
unfolding first_mark next_mark
mark-tokens b (First n) (Leaf s) f = head-tokens b (Leaf s) f.1
mark-tokens b (First n) (Opening name) f = head-tokens b (Opening name) f.1
mark-tokens b (First n) Closing f = refl
mark-tokens b (Next n) (Leaf s) f = omega (arith, head-tokens b (Leaf s) f.1)
mark-tokens b (Next n) (Opening name) f = omega (arith, head-tokens b (Opening name) f.1)
mark-tokens b (Next n) Closing f = refl
mark-tokens b Nothing (Leaf s) f = omega (arith, head-tokens b (Leaf s) f.1)
mark-tokens b Nothing (Opening name) f = omega (arith, head-tokens b (Opening name) f.1)
mark-tokens b Nothing Closing f = refl

marks-tokens : (b : Bool) (k : ℕ) (a : Awaited) (ms : List Mark) → fits_steps (within b) a ms
    → marks_end k a ms ≡ k + length (words_steps (within b) a ms)
marks-tokens b k a [] f = omega arith
marks-tokens b k a (m ∷ ms) f =
    omega (
      arith,
      marks-tokens b (k + commas a m + tokens_of_mark m) (behind_mark a m) ms f.1.1,
      mark-tokens b a m f.1.0,
      length-append ((mark b a).words m) (words_steps (within b) (behind_mark a m) ms),
    )

application-tokens : (b : Bool) (t : List Sign) → (application b).fits t
    → tokens_in t ≡ length ((application b).words t)
unfolding application named marks
application-tokens b [] f = absurd f.0
application-tokens b (Variable n ∷ ss) f = absurd f.0
application-tokens b (Local n ∷ ss) f = absurd f.0
application-tokens b (Apply name n ∷ ss) f = omega (arith, marks-tokens b 2 (First 0) (brackets (n ∷ []) ss) f.1.1)

pub term-tokens : (b : Bool) (t : List Sign) → (term b).fits t → tokens_in t ≡ length ((term b).words t)
unfolding term
term-tokens b [] f = absurd f.0
term-tokens b (Variable n ∷ ss) f = sym (leaf-tokens b (Variable n) f.1)
term-tokens b (Local n ∷ ss) f = sym (leaf-tokens b (Local n) f.1)
term-tokens b (Apply name n ∷ ss) f = application-tokens b (Apply name n ∷ ss) f.1

-- the places only grow
pub end-after : (k : ℕ) (a : Awaited) (ms : List Mark) → k ≤ marks_end k a ms
end-after k a [] = omega arith
end-after k a (m ∷ ms) = omega (arith, end-after (k + commas a m + tokens_of_mark m) (behind_mark a m) ms)

pub mark-before : (k : ℕ) (a : Awaited) (m : Mark) (ms : List Mark)
    → k + commas a m + tokens_of_mark m ≤ marks_end k a (m ∷ ms)
mark-before k a m ms = end-after (k + commas a m + tokens_of_mark m) (behind_mark a m) ms

pub mark-some : (m : Mark) → 1 ≤ tokens_of_mark m
mark-some (Leaf s) = omega arith
mark-some (Opening name) = omega arith
mark-some Closing = omega arith

-- a mark's place was put after the others
pub placed : (k : ℕ) (a : Awaited) (m : Mark) (ms whole : List Mark) (front both total : List ℕ) → whole ≡ m ∷ ms
    → both ≡ front ++ sign_at k a m → front ++ (marks_at k a whole ++ marks_end k a whole ∷ []) ≡ total
    → both ++ (marks_at (k + commas a m + tokens_of_mark m) (behind_mark a m) ms
    ++ marks_end (k + commas a m + tokens_of_mark m) (behind_mark a m) ms ∷ []) ≡ total
placed k a m ms whole front both total is put so_far =
    let next = k + commas a m + tokens_of_mark m in
    let rest = marks_at next (behind_mark a m) ms in
    let last = marks_end next (behind_mark a m) ms ∷ [] in
    ap (λ x. x ++ (rest ++ last)) put ∙ append_assoc front (sign_at k a m) (rest ++ last)
    ∙ ap (λ x. front ++ x) (sym (append_assoc (sign_at k a m) rest last))
    ∙ ap (λ x. front ++ (marks_at k a x ++ marks_end k a x ∷ [])) (sym is) ∙ so_far

-- the room that a mark takes
pub room : (k : ℕ) (a : Awaited) (m : Mark) (ms whole : List Mark) (most : ℕ) → whole ≡ m ∷ ms
    → marks_end k a whole < most → (k + 1 < most) × (k + commas a m + tokens_of_mark m < most)
room k a m ms whole most is h =
    let e = ap (marks_end k a) is in
    (omega (arith, e, h, mark-before k a m ms, mark-some m), omega (arith, e, h, mark-before k a m ms))

-- ---- there is a place for each sign, and two tokens from it on

closings-count : (waits : List ℕ) (ms : List Mark) (n : ℕ) → ((k : ℕ) (a : Awaited) → length (marks_at k a ms) ≡ n)
    → (k : ℕ) (a : Awaited) → length (marks_at k a (closings waits ++ ms)) ≡ n
closings-count [] ms n h k a = h k a
closings-count (zero ∷ waits) ms n h k a = closings-count waits ms n h (k + commas a Closing + 1)
    (behind_mark a Closing)
closings-count (suc j ∷ waits) ms n h k a = h k a

ends-count : (waits : List ℕ) (k : ℕ) (a : Awaited) → length (marks_at k a (closings waits)) ≡ 0
ends-count [] k a = refl
ends-count (zero ∷ waits) k a = ends-count waits (k + commas a Closing + 1) (behind_mark a Closing)
ends-count (suc j ∷ waits) k a = refl

sign-count : (s : Sign) (ms : List Mark) (n : ℕ) → ((k : ℕ) (a : Awaited) → length (marks_at k a ms) ≡ n)
    → (k : ℕ) (a : Awaited) → length (marks_at k a (mark_of s ∷ ms)) ≡ suc n
sign-count (Variable v) ms n h k a = ap suc (h (k + commas a (Leaf (Variable v)) + 2)
    (behind_mark a (Leaf (Variable v))))
sign-count (Local v) ms n h k a = ap suc (h (k + commas a (Leaf (Local v)) + 2) (behind_mark a (Leaf (Local v))))
sign-count (Apply name v) ms n h k a = ap suc (h (k + commas a (Opening name) + 2) (behind_mark a (Opening name)))

brackets-count : (ss : List Sign) (waits : List ℕ) (k : ℕ) (a : Awaited)
    → length (marks_at k a (brackets waits ss)) ≡ length ss
brackets-count [] waits k a = ends-count waits k a
brackets-count (s ∷ ss) waits k a = closings-count waits (mark_of s ∷ brackets (opened s (behind_next waits)) ss)
    (suc (length ss)) (sign-count s (brackets (opened s (behind_next waits)) ss) (length ss)
    (λ j b. brackets-count ss (opened s (behind_next waits)) j b)) k a

pub places-count : (t : List Sign) → IsTerm t → length (places_of t) ≡ length t + 1
places-count [] h = absurd h
places-count (Variable n ∷ []) h = refl
places-count (Variable n ∷ s ∷ ss) h = absurd h
places-count (Local n ∷ []) h = refl
places-count (Local n ∷ s ∷ ss) h = absurd h
places-count (Apply name n ∷ ss) h = omega (
  arith,
  brackets-count ss (n ∷ []) 2 (First 0),
  length-append (marks_at 2 (First 0) (brackets (n ∷ []) ss)) (marks_end 2 (First 0) (brackets (n ∷ []) ss) ∷ []),
)

-- each of the places has two tokens before the end, but for the last, which is the end
abbrev pub HaveRoom : ℕ → List ℕ → Type 0
HaveRoom e [] = Unit {0}
HaveRoom e (p ∷ []) = p ≤ e
HaveRoom e (p ∷ q ∷ ps) = (p + 2 ≤ e) × HaveRoom e (q ∷ ps)

room-cons : (e p : ℕ) (ps : List ℕ) → p + 2 ≤ e → HaveRoom e ps → HaveRoom e (p ∷ ps)
room-cons e p [] h k = omega (arith, h)
room-cons e p (q ∷ ps) h k = (h, k)

marks-room : (k : ℕ) (a : Awaited) (ms : List Mark)
    → HaveRoom (marks_end k a ms) (marks_at k a ms ++ marks_end k a ms ∷ [])
marks-room k a [] = omega arith
marks-room k a (Closing ∷ ms) = marks-room (k + commas a Closing + 1) (behind_mark a Closing) ms
marks-room k a (Leaf s ∷ ms) = room-cons _ _ _ (mark-before k a (Leaf s) ms)
    (marks-room (k + commas a (Leaf s) + 2) (behind_mark a (Leaf s)) ms)
marks-room k a (Opening name ∷ ms) = room-cons _ _ _ (mark-before k a (Opening name) ms)
    (marks-room (k + commas a (Opening name) + 2) (behind_mark a (Opening name)) ms)

pub places-room : (t : List Sign) → IsTerm t → HaveRoom (tokens_in t) (places_of t)
places-room [] h = absurd h
places-room (Variable n ∷ ss) h = (omega arith, omega arith)
places-room (Local n ∷ ss) h = (omega arith, omega arith)
places-room (Apply name n ∷ ss) h = room-cons _ _ _ (omega (arith, end-after 2 (First 0) (brackets (n ∷ []) ss)))
    (marks-room 2 (First 0) (brackets (n ∷ []) ss))
