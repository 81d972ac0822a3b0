-- Counts stay below the number of marks; lists from their ends.
use Rattle.std.proofs.Common.{◌≡◌, ℕ, zero, suc, ◌+◌, ◌-◌, ◌≤◌, ◌<◌, List, [], ◌∷◌, ◌++◌, length, drop, get_or, refl}
use Rattle.std.proofs.Common.{sym, ap, ◌∙◌, arith}
use Rattle.std.specs.Prelude.{map, reverse, Option, Some, None, MatchOption, unwrap_or}
use Rattle.std.proofs.lemmas.List.{append-nil, append_assoc, map-append, reverse-append}
use Rattle.cyc_grammar.proofs.WrittenTexts.{left-at}
use Rattle.fo_syntax.specs.Trees.{Sign}
use Rattle.fo_syntax.specs.Brackets.{Mark, Leaf, Opening, Closing, mark_of, opened, brackets, one_more, innermost}
use Rattle.fo_syntax.specs.Brackets.{outer, counted, closings, behind_next}
use Rattle.fo_syntax.proofs.BracketLaws.{total}

one_more-total : (ns : List ℕ) → total (one_more ns) ≤ total ns + 1
one_more-total [] = omega arith
one_more-total (n ∷ ns) = omega arith

outer-total : (ns : List ℕ) → innermost ns + total (outer ns) ≡ total ns
outer-total [] = omega arith
outer-total (n ∷ ns) = refl

counted-total : (ms : List Mark) → total (counted ms).1 ≤ length ms
counted-total [] = omega arith
counted-total (Leaf s ∷ ms) = omega (arith, one_more-total (counted ms).1, counted-total ms)
counted-total (Opening name ∷ ms) = omega (
  arith,
  one_more-total (outer (counted ms).1),
  outer-total (counted ms).1,
  counted-total ms,
)
counted-total (Closing ∷ ms) = omega (arith, counted-total ms)

-- a count of what is after a mark
pub counts-few : (ms : List Mark) → (innermost (counted ms).1 ≤ length ms)
    × (innermost (outer (counted ms).1) ≤ length ms)
counts-few ms = (
  omega (arith, outer-total (counted ms).1, counted-total ms),
  omega (arith, outer-total (counted ms).1, outer-total (outer (counted ms).1), counted-total ms),
)

pub length-drop-le : {A : Type 0} (k : ℕ) (xs : List A) → length (drop k xs) + k ≤ length xs + k
length-drop-le zero xs = omega arith
length-drop-le (suc k) [] = omega arith
length-drop-le (suc k) (x ∷ xs) = omega (arith, length-drop-le k xs)

pub shorter : {A : Type 0} (k : ℕ) (xs : List A) → 0 < k → k ≤ length xs → length (drop k xs) + 1 ≤ length xs
shorter zero xs h le = absurd (omega arith)
shorter (suc k) [] h le = absurd (omega arith)
shorter (suc k) (x ∷ xs) h le = omega (arith, length-drop-le k xs)

-- what is left from the place before this one on
pub left-before : {X Y : Type 0} (f : X → Y) (xs : List X) (k : ℕ) (d : X) → 0 < k → k ≤ length xs
    → drop (k - 1) (map f xs) ≡ f (get_or xs (k - 1) d) ∷ drop k (map f xs)
left-before f xs k d some le =
    let same : (k - 1) + 1 ≡ k = omega arith in
    left-mapped f xs (k - 1) (get_or xs (k - 1) d) (left-at xs (k - 1) d (omega arith))
    ∙ ap (λ j. f (get_or xs (k - 1) d) ∷ drop j (map f xs)) same
  where
    drop-map : {X Y : Type 0} (f : X → Y) (i : ℕ) (xs : List X) → drop i (map f xs) ≡ map f (drop i xs)
    drop-map f zero xs = refl
    drop-map f (suc i) [] = refl
    drop-map f (suc i) (x ∷ xs) = drop-map f i xs

    left-mapped : {X Y : Type 0} (f : X → Y) (xs : List X) (i : ℕ) (x : X) → drop i xs ≡ x ∷ drop (i + 1) xs
        → drop i (map f xs) ≡ f x ∷ drop (i + 1) (map f xs)
    left-mapped f xs i x e = drop-map f i xs ∙ ap (map f) e ∙ ap (λ ys. f x ∷ ys) (sym (drop-map f (i + 1) xs))

map-reverse : {X Y : Type 0} (f : X → Y) (xs : List X) → map f (reverse xs) ≡ reverse (map f xs)
map-reverse f [] = refl
map-reverse f (x ∷ xs) = ap (map f) (reverse-append (x ∷ []) xs) ∙ map-append f (reverse xs) (x ∷ [])
    ∙ ap (λ ys. ys ++ f x ∷ []) (map-reverse f xs) ∙ sym (reverse-append (f x ∷ []) (map f xs))

-- one more at the end, and all turned round
pub turned : {X Y : Type 0} (f : X → Y) (xs : List X) (x : X)
    → map f (reverse (xs ++ x ∷ [])) ≡ f x ∷ reverse (map f xs)
turned f xs x = ap (map f) (reverse-append xs (x ∷ [])) ∙ ap (λ ys. f x ∷ ys) (map-reverse f xs)

-- the count that is taken, or none
pub taken : (r : Option ℕ) (old new : List ℕ) → MatchOption r ((old ≡ []) × (new ≡ [])) (λ n. old ≡ n ∷ new)
    → unwrap_or r 0 ≡ innermost old
taken None old new h = ap innermost (sym h.0)
taken (Some n) old new h = ap innermost (sym h)

-- ---- closing brackets

pub closed-all : (front : List Mark) (waits : List ℕ) (whole : List Mark) → waits ≡ [] → front ++ closings waits ≡ whole
    → front ≡ whole
closed-all front waits whole none e = sym (append-nil front) ∙ ap (λ w. front ++ closings w) (sym none) ∙ e

pub closed-here : (front : List Mark) (waits rest : List ℕ) (n : ℕ) (whole : List Mark) → 0 < n → waits ≡ n ∷ rest
    → front ++ closings waits ≡ whole → front ≡ whole
closed-here front waits rest zero whole some is e = absurd (omega arith)
closed-here front waits rest (suc n) whole some is e = sym (append-nil front) ∙ ap (λ w. front ++ closings w) (sym is)
    ∙ e

pub next-here : (waits rest : List ℕ) (n : ℕ) (whole : List ℕ) → 0 < n → waits ≡ n ∷ rest → behind_next waits ≡ whole
    → (n - 1) ∷ rest ≡ whole
next-here waits rest zero whole some is e = absurd (omega arith)
next-here waits rest (suc n) whole some is e = let same : suc n - 1 ≡ n = omega arith in
    ap (λ k. k ∷ rest) same ∙ ap behind_next (sym is) ∙ e

-- a sign was put after the marks before it
pub opened-next : (front closed both : List Mark) (waits : List ℕ) (s : Sign) (ss whole : List Sign) (all : List Mark)
    → whole ≡ s ∷ ss → closed ≡ front ++ closings waits → both ≡ closed ++ mark_of s ∷ []
    → front ++ brackets waits whole ≡ all → both ++ brackets (opened s (behind_next waits)) ss ≡ all
opened-next front closed both waits s ss whole all is one two so_far =
    let rest = brackets (opened s (behind_next waits)) ss in
    ap (λ x. x ++ rest) (two ∙ ap (λ x. x ++ mark_of s ∷ []) one)
    ∙ append_assoc (front ++ closings waits) (mark_of s ∷ []) rest
    ∙ append_assoc front (closings waits) (mark_of s ∷ rest) ∙ ap (λ x. front ++ brackets waits x) (sym is) ∙ so_far
