-- Terms one after the other come apart, also while the last has only begun.
use Rattle.std.proofs.Common.{◌≡◌, ℕ, zero, suc, ◌+◌, ◌-◌, ◌<◌, ◌≤◌, List, [], ◌∷◌, ◌++◌, take, drop, length, refl, sym}
use Rattle.std.proofs.Common.{ap, subst, ◌∙◌, arith, append_assoc, map}
use Rattle.std.specs.List.{flat_map}
use Rattle.std.proofs.lemmas.List.{append-nil, take-append-drop, map-append}
use Rattle.fo_formula.specs.declared.terms.Sign.{Sign}
use Rattle.fo_formula.specs.Words.{Word, arity, AreTerms, end_of, first_term, after_first}
use Rattle.fo_formula.proofs.Reading.{first_split}
use Rattle.fo_file.specs.Values.{first_terms}

-- ---- all of them

pub first-count : (n : ℕ) (w : Word) → length (first_terms n w) ≡ n
first-count zero w = refl
first-count (suc n) w = ap suc (first-count n (after_first w))

-- they make up the word
pub first-joined : {X : Type 0} (f : Sign → X) (n : ℕ) (w : Word) → AreTerms n w
    → flat_map (map f) (first_terms n w) ≡ map f w
first-joined f zero [] h = refl
first-joined f zero (s ∷ w) h = absurd h
first-joined f (suc n) w h =
    let rest = first-joined f n (after_first w) (first_split n w h).1 in
    ap (λ xs. map f (first_term w) ++ xs) rest ∙ sym (map-append f (first_term w) (after_first w))
    ∙ ap (map f) (take-append-drop (end_of 1 w) w)

-- as many signs as terms, at least
pub terms-few : (n : ℕ) (w : Word) → AreTerms n w → n ≤ length w
terms-few zero w h = omega arith
terms-few (suc n) [] h = absurd h
terms-few (suc n) (s ∷ w) h = let r = terms-few (arity s + n) w h in omega arith

-- ---- while the last has only begun

-- n terms, of which the first has these signs in front of the word's, and awaits so many terms
abbrev begun : ℕ → Word → ℕ → Word → List Word
begun awaited front zero w = []
begun awaited front (suc n) w = (front ++ take (end_of awaited w) w) ∷ first_terms n (drop (end_of awaited w) w)

-- the word is what is left of n terms, where the first awaits so many
abbrev AreLeft : ℕ → ℕ → Word → Type 0
AreLeft awaited zero w = w ≡ []
AreLeft awaited (suc n) w = AreTerms (awaited + n) w

-- of the first terms of a word these are made, the next has these signs and awaits so many terms, and this is left
pub record IsUnderway (count : ℕ) (whole : Word) (made : List Word) (awaited : ℕ) (front left : Word) : Type 0 where
  pub missing : ℕ
  pub some : 0 < awaited
  pub same : made ++ begun awaited front missing left ≡ first_terms count whole
  pub terms : AreLeft awaited missing left

new-begun : (n : ℕ) (w : Word) → begun 1 [] n w ≡ first_terms n w
new-begun zero w = refl
new-begun (suc n) w = refl

new-left : (n : ℕ) (w : Word) → AreTerms n w → AreLeft 1 n w
new-left zero [] h = refl
new-left zero (s ∷ w) h = absurd h
new-left (suc n) w h = let e : suc n ≡ 1 + n = omega arith in subst (λ i. AreTerms i w) e h

pub none-made : (n : ℕ) (w : Word) → AreTerms n w → IsUnderway n w [] 1 [] w
none-made n w h = record { missing = n; some = omega arith; same = new-begun n w; terms = new-left n w h }

-- what a sign more makes of them
abbrev Behind : ℕ → Word → List Word → ℕ → Word → Word → Type 0
Behind count whole made zero front left = IsUnderway count whole (made ++ front ∷ []) 1 [] left
Behind count whole made (suc awaited) front left = IsUnderway count whole made (suc awaited) front left

step-begun : (a n : ℕ) (front : Word) (s : Sign) (w : Word)
    → begun (suc a) front (suc n) (s ∷ w) ≡ begun (arity s + a) (front ++ s ∷ []) (suc n) w
step-begun a n front s w =
    ap (λ (xs : Word). xs ∷ first_terms n (drop (end_of (arity s + a) w) w))
    (sym (append_assoc front (s ∷ []) (take (end_of (arity s + a) w) w)))

step-left : (a n : ℕ) (s : Sign) (w : Word) → AreLeft (suc a) (suc n) (s ∷ w) → AreTerms (arity s + a + n) w
step-left a n s w h =
    let e : suc a + n ≡ suc (a + n) = omega arith in
    let d : arity s + (a + n) ≡ arity s + a + n = omega arith in
    subst (λ i. AreTerms i w) d (subst (λ i. AreTerms i (s ∷ w)) e h)

end-begun : (n : ℕ) (front w : Word) → begun 0 front (suc n) w ≡ front ∷ first_terms n w
end-begun n front w = ap (λ (xs : Word). xs ∷ first_terms n w) (append-nil front)

behind : (count : ℕ) (whole : Word) (made : List Word) (b n : ℕ) (front left : Word)
    → made ++ begun b front (suc n) left ≡ first_terms count whole → AreTerms (b + n) left
    → Behind count whole made b front left
behind count whole made zero n front left e h =
    let z : 0 + n ≡ n = omega arith in record {
      missing = n;
      some = omega arith;
      same = append_assoc made (front ∷ []) (begun 1 [] n left)
          ∙ ap (λ (xs : List Word). made ++ front ∷ xs) (new-begun n left)
          ∙ ap (λ (xs : List Word). made ++ xs) (sym (end-begun n front left)) ∙ e;
      terms = new-left n left (subst (λ i. AreTerms i left) z h);
    }
behind count whole made (suc b) n front left e h = record { missing = suc n; some = omega arith; same = e; terms = h }

one-more : (count : ℕ) (whole : Word) (made : List Word) (a n : ℕ) (front : Word) (s : Sign) (left : Word)
    → made ++ begun a front n (s ∷ left) ≡ first_terms count whole → 0 < a → AreLeft a n (s ∷ left)
    → Behind count whole made (a - 1 + arity s) (front ++ s ∷ []) left × (a - 1 + arity s ≤ length left)
one-more count whole made zero n front s left e some h = absurd (omega arith)
one-more count whole made (suc a) zero front s left e some h = absurd cc
one-more count whole made (suc a) (suc n) front s left e some h =
    let more = step-left a n s left h in
    let few = terms-few (arity s + a + n) left more in
    let same = ap (λ (xs : List Word). made ++ xs) (sym (step-begun a n front s left)) ∙ e in
    let z : arity s + a ≡ suc a - 1 + arity s = omega arith in (
      subst (λ b. Behind count whole made b (front ++ s ∷ []) left) z
          (behind count whole made (arity s + a) n (front ++ s ∷ []) left same more),
      omega arith,
    )

-- ---- for a loop that takes the signs one by one

pub more-awaited : (count : ℕ) (whole : Word) (made : List Word) (a : ℕ) (front : Word) (s : Sign) (left all : Word)
    → all ≡ s ∷ left → IsUnderway count whole made a front all → a - 1 + arity s ≤ length left
more-awaited count whole made a front s left all e u =
    let v = subst (λ (w : Word). IsUnderway count whole made a front w) e u in
    (one-more count whole made a v.missing front s left v.same v.some v.terms).1

positive : (count : ℕ) (whole : Word) (made : List Word) (b : ℕ) (front left : Word) → 0 < b
    → Behind count whole made b front left → IsUnderway count whole made b front left
positive count whole made zero front left h u = absurd (omega arith)
positive count whole made (suc b) front left h u = u

pub not-yet : (count : ℕ) (whole : Word) (made : List Word) (a b : ℕ) (front : Word) (s : Sign) (left all : Word)
    → all ≡ s ∷ left → b ≡ a - 1 + arity s → 0 < b → IsUnderway count whole made a front all
    → IsUnderway count whole made b (front ++ s ∷ []) left
not-yet count whole made a b front s left all e d h u =
    let v = subst (λ (w : Word). IsUnderway count whole made a front w) e u in
    let w = (one-more count whole made a v.missing front s left v.same v.some v.terms).0 in
    positive count whole made b (front ++ s ∷ []) left h
    (subst (λ i. Behind count whole made i (front ++ s ∷ []) left) (sym d) w)

pub one-made : (count : ℕ) (whole : Word) (made : List Word) (a : ℕ) (front : Word) (s : Sign) (left all : Word)
    → all ≡ s ∷ left → a - 1 + arity s ≡ 0 → IsUnderway count whole made a front all
    → IsUnderway count whole (made ++ (front ++ s ∷ []) ∷ []) 1 [] left
one-made count whole made a front s left all e d u =
    let v = subst (λ (w : Word). IsUnderway count whole made a front w) e u in
    let w = (one-more count whole made a v.missing front s left v.same v.some v.terms).0 in
    subst (λ i. Behind count whole made i (front ++ s ∷ []) left) d w

no-more : (count : ℕ) (whole : Word) (made : List Word) (a n : ℕ) (front : Word) → 0 < a → AreLeft a n []
    → made ++ begun a front n [] ≡ first_terms count whole → made ≡ first_terms count whole
no-more count whole made a zero front some h e = sym (append-nil made) ∙ e
no-more count whole made zero (suc n) front some h e = absurd (omega arith)
no-more count whole made (suc a) (suc n) front some h e =
    let z : suc a + n ≡ suc (a + n) = omega arith in absurd (subst (λ i. AreTerms i []) z h)

pub all-made : (count : ℕ) (whole : Word) (made : List Word) (a : ℕ) (front all : Word) → all ≡ []
    → IsUnderway count whole made a front all → made ≡ first_terms count whole
all-made count whole made a front all e u =
    let v = subst (λ (w : Word). IsUnderway count whole made a front w) e u in
    no-more count whole made a v.missing front v.some v.terms v.same

-- the same, told by equal parts
pub told-so : (count : ℕ) (whole : Word) (made made' : List Word) (a a' : ℕ) (front front' left : Word) → made' ≡ made
    → a' ≡ a → front' ≡ front → IsUnderway count whole made a front left → IsUnderway count whole made' a' front' left
told-so count whole made made' a a' front front' left p q r u =
    subst (λ (xs : List Word). IsUnderway count whole xs a' front' left) (sym p)
    (subst (λ (i : ℕ). IsUnderway count whole made i front' left) (sym q)
    (subst (λ (w : Word). IsUnderway count whole made a w left) (sym r) u))
