-- The members that begin with a derivation, and what a stack has still to visit.
use Rattle.std.proofs.Common.{ℕ, zero, suc, ◌≡◌, ◌+◌, ◌-◌, ◌≤◌, Bool, true, false, List, [], ◌∷◌, ◌++◌, Option, Some}
use Rattle.std.proofs.Common.{length, filter, map, arith, refl, sym, ap, subst, ◌∙◌, append_assoc, length-append, inl}
use Rattle.std.proofs.Common.{inr}
use Rattle.std.specs.Prelude.{flat_map}
use Rattle.std.proofs.lemmas.Bool.{cases_Bool}
use Rattle.std.proofs.lemmas.List.{map-append, reverse-append}
use Rattle.derivations.specs.Cursors.{IsNextOf}
use Rattle.derivations.specs.System.{System, after, offers, members, chosen}
use Rattle.derivations.specs.Stack.{front, tree, later, rest, rest_of}

pub flat_map_same : {X Y : Type 0} (f g : X → List Y) (xs : List X) → ((x : X) → f x ≡ g x)
    → flat_map f xs ≡ flat_map g xs
flat_map_same f g [] h = refl
flat_map_same f g (x ∷ xs) h = let e = h x in let r = flat_map_same f g xs h in cc

pub filter_none : {X : Type 0} (t : X → Bool) (xs : List X) → ((x : X) → t x ≡ true → ⊥) → filter t xs ≡ []
filter_none t [] h = refl
filter_none t (x ∷ xs) h = elim (cases_Bool (t x))
    [ inl yes' ↦ absurd (h x yes') | inr no' ↦ rw no' (filter_none t xs h) ]

pub length-after : {R : Type 0} (d : List R) (r : R) → length (after d r) ≡ length d + 1
length-after d r = length-append d (r ∷ [])

pub front-after : {R : Type 0} (d : List R) (r : R) → front (after d r) ≡ d
front-after [] r = refl
front-after (x ∷ []) r = refl
front-after (x ∷ y ∷ ys) r = ap (λ zs. x ∷ zs) (front-after (y ∷ ys) r)

none_fit : {R : Type 0} (s : System R) (e : ℕ) (d : List R) → s.limit ≤ length d → offers s e d ≡ []
none_fit s e d h =
    elim (cases_Bool (s.complete d)) [
      | inl yes' ↦ rw yes' refl
      | inr no' ↦ rw no' (filter_none (s.fits e d) (chosen s d)
          (λ r fit. absurd (let l = s.short e d r fit in omega arith)))
    ]

members_at : {R : Type 0} (s : System R) (e n : ℕ) (d : List R) → s.limit - length d ≡ n
    → members s e n d ≡ d ∷ flat_map (λ r. tree s e (after d r)) (offers s e d)
members_at s e zero d h = let o = none_fit s e d (omega arith) in rw o refl
members_at s e (suc n) d h =
    ap (λ ds. d ∷ ds)
    (flat_map_same (λ r. members s e n (after d r)) (λ r. tree s e (after d r)) (offers s e d)
    (λ r. let m : n ≡ s.limit - length (after d r) = omega (arith, length-after d r) in
    ap (λ k. members s e k (after d r)) m))

-- a member comes first, and then those that begin with an offer
pub tree_is : {R : Type 0} (s : System R) (e : ℕ) (d : List R)
    → tree s e d ≡ d ∷ flat_map (λ r. tree s e (after d r)) (offers s e d)
tree_is s e d = members_at s e (s.limit - length d) d refl

pub tree_open : {R : Type 0} (s : System R) (e : ℕ) (d : List R) → s.complete d ≡ false
    → tree s e d ≡ d ∷ later s e d (chosen s d)
tree_open s e d h = tree_is s e d ∙ rw h refl

pub later_fits : {R : Type 0} (s : System R) (e : ℕ) (d : List R) (r : R) (rs : List R) → s.fits e d r ≡ true
    → later s e d (r ∷ rs) ≡ tree s e (after d r) ++ later s e d rs
later_fits s e d r rs h = rw h refl

pub rest_push : {R : Type 0} (s : System R) (e : ℕ) (d : List R) (frames : List (List R)) (q : List R)
    → rest s e d (frames ++ (q ∷ [])) ≡ later s e d q ++ rest s e (front d) frames
rest_push s e d frames q = ap (rest_of s e d) (reverse-append frames (q ∷ []))

-- what a list gives that has one member more at its end
pub pushed : {X Y : Type 0} (f : X → Y) (xs ys : List X) (x : X) → ys ≡ xs ++ (x ∷ [])
    → map f ys ≡ map f xs ++ (f x ∷ [])
pushed f xs ys x e = ap (map f) e ∙ map-append f xs (x ∷ [])

-- what was told is the list's head
pub head_told : {X : Type 0} (old new : List X) (told : Option X) (x : X) → IsNextOf old new told → told ≡ Some x
    → old ≡ x ∷ new
head_told old new told x next is = subst (IsNextOf old new) is next

-- the top's first offer is followed
pub next_is : {R : Type 0} (s : System R) (e : ℕ) (d new : List R) (r : R) (left left' : List R)
    (frames frames' : List (List R)) (q : List R) (whole : List (List R)) →
    whole ≡ later s e d left ++ rest s e (front d) frames → left ≡ r ∷ left' → s.fits e d r ≡ true → new ≡ after d r
    → frames' ≡ frames ++ (q ∷ []) → left' ≡ q →
    whole ≡ tree s e new ++ rest s e (front new) frames'
next_is s e d new r left left' frames frames' q whole h ll fit nn ff qq =
    let back : front new ≡ d = ap front nn ∙ front-after d r in
    let one : rest s e (front new) frames' ≡ later s e d q
    ++ rest s e (front d) frames = ap (λ x. rest s e x frames') back
    ∙ (ap (rest s e d) ff ∙ rest_push s e d frames q) in
    let two : later s e d left ≡ tree s e new ++ later s e d q = ap (later s e d) ll
    ∙ (later_fits s e d r left' fit ∙ (ap (λ x. tree s e x ++ later s e d left') (sym nn)
    ∙ ap (λ x. tree s e new ++ later s e d x) qq)) in
    h ∙ (ap (λ x. x ++ rest s e (front d) frames) two
    ∙ (append_assoc (tree s e new) (later s e d q) (rest s e (front d) frames)
    ∙ ap (λ x. tree s e new ++ x) (sym one)))
