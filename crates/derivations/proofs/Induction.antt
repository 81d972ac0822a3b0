-- What holds of each member; and more fuel gives no more members.
use Rattle.std.proofs.Common.{ℕ, zero, suc, ◌≡◌, ◌+◌, ◌-◌, ◌≤◌, ◌⊎◌, inl, inr, Bool, true, false, List, [], ◌∷◌, ◌++◌}
use Rattle.std.proofs.Common.{Some, None, length, filter, slice_get, arith, refl, sym, ap, subst, ◌∙◌}
use Rattle.std.specs.Prelude.{flat_map, find}
use Rattle.std.proofs.lemmas.Bool.{cases_Bool}
use Rattle.derivations.specs.System.{System, after, offers, chosen, members, partial}
use Rattle.derivations.specs.Firsts.{IsIn}
use Rattle.derivations.specs.Stack.{tree}
use Rattle.derivations.proofs.Members.{tree_is, length-after, flat_map_same}

in_more : {X : Type 0} (x y : X) (xs : List X) → IsIn xs y → IsIn (x ∷ xs) y
in_more x y xs h = record { place = suc h.place; at = h.at }

in_cons : {X : Type 0} (x y : X) (xs : List X) (i : ℕ) → slice_get (x ∷ xs) i ≡ Some y → (x ≡ y) ⊎ IsIn xs y
in_cons x y xs zero h = inl (let e : Some x ≡ Some y = h in cc)
in_cons x y xs (suc i) h = inr (record { place = i; at = h })

in_append : {X : Type 0} (xs ys : List X) (i : ℕ) (x : X) → slice_get (xs ++ ys) i ≡ Some x → IsIn xs x ⊎ IsIn ys x
in_append [] ys i x h = inr (record { place = i; at = h })
in_append (z ∷ xs) ys zero x h = inl (record { place = 0; at = h })
in_append (z ∷ xs) ys (suc i) x h = elim (in_append xs ys i x h) [ inl a ↦ inl (in_more z x xs a) | inr b ↦ inr b ]

record InFlat {X Y : Type 0} (f : X → List Y) (xs : List X) (y : Y) : Type 0 where
  x : X
  is_in : IsIn xs x
  gives : IsIn (f x) y

in_flat_map : {X Y : Type 0} (f : X → List Y) (xs : List X) (i : ℕ) (y : Y) → slice_get (flat_map f xs) i ≡ Some y
    → InFlat f xs y
in_flat_map f [] i y h = absurd (let e : None ≡ Some y = h in cc)
in_flat_map f (x ∷ xs) i y h =
    elim (in_append (f x) (flat_map f xs) i y h) [
      | inl a ↦ record { x = x; is_in = record { place = 0; at = refl }; gives = a }
      | inr b ↦ (let r = in_flat_map f xs b.place y b.at in record
          { x = r.x; is_in = in_more x r.x xs r.is_in; gives = r.gives })
    ]

record InFilter {X : Type 0} (t : X → Bool) (xs : List X) (x : X) : Type 0 where
  is_in : IsIn xs x
  pass : t x ≡ true

in_filter : {X : Type 0} (t : X → Bool) (xs : List X) (i : ℕ) (x : X) → slice_get (filter t xs) i ≡ Some x
    → InFilter t xs x
in_filter t [] i x h = absurd (let e : None ≡ Some x = h in cc)
in_filter t (z ∷ xs) i x h =
    elim (cases_Bool (t z)) [
      | inl yes' ↦
          (let h' : slice_get (z ∷ filter t xs) i ≡ Some x = rw yes' at h in
          elim (in_cons z x (filter t xs) i h') [
            | inl e ↦ record { is_in = record { place = 0; at = ap Some e }; pass = subst (λ w. t w ≡ true) e yes' }
            | inr m ↦ (let r = in_filter t xs m.place x m.at in
                record { is_in = in_more z x xs r.is_in; pass = r.pass })
          ])
      | inr no' ↦
          (let h' : slice_get (filter t xs) i ≡ Some x = rw no' at h in
          let r = in_filter t xs i x h' in record { is_in = in_more z x xs r.is_in; pass = r.pass })
    ]

pub record IsOffered {R : Type 0} (s : System R) (e : ℕ) (d : List R) (r : R) : Type 0 where
  pub unfinished : s.complete d ≡ false
  pub chosen : IsIn (chosen s d) r
  pub fits : s.fits e d r ≡ true

in_offers : {R : Type 0} (s : System R) (e : ℕ) (d : List R) (r : R) → IsIn (offers s e d) r → IsOffered s e d r
in_offers s e d r h =
    elim (cases_Bool (s.complete d)) [
      | inl yes' ↦ absurd (let h' : slice_get [] h.place ≡ Some r = rw yes' at h.at in let e' : None ≡ Some r = h' in
          cc)
      | inr no' ↦
          (let h' : slice_get (filter (s.fits e d) (chosen s d)) h.place ≡ Some r = rw no' at h.at in
          let f = in_filter (s.fits e d) (chosen s d) h.place r h' in
          record { unfinished = no'; chosen = f.is_in; fits = f.pass })
    ]

-- what holds of d and is kept by each offer holds of each member that begins with d
pub each_member : {R : Type 0} (s : System R) (e : ℕ) (P : List R → Type 0)
    → ((d : List R) (r : R) → P d → IsOffered s e d r → P (after d r)) → (n : ℕ) (d : List R) → P d → (m : List R)
    → IsIn (members s e n d) m → P m
each_member s e P keeps zero d p m h = elim (in_cons d m [] h.place h.at)
    [ inl same ↦ subst P same p | inr none ↦ absurd (let x : None ≡ Some m = none.at in cc) ]
each_member s e P keeps (suc n) d p m h =
    elim (in_cons d m (flat_map (λ r. members s e n (after d r)) (offers s e d)) h.place h.at) [
      | inl same ↦ subst P same p
      | inr more ↦
          (let f = in_flat_map (λ r. members s e n (after d r)) (offers s e d) more.place m more.at in
          each_member s e P keeps n (after d f.x) (keeps d f.x p (in_offers s e d f.x f.is_in)) m f.gives)
    ]

record FoundIn {X : Type 0} (t : X → Bool) (xs : List X) (x : X) : Type 0 where
  is_in : IsIn xs x
  pass : t x ≡ true

found_in : {X : Type 0} (t : X → Bool) (xs : List X) (x : X) → find t xs ≡ Some x → FoundIn t xs x
found_in t [] x h = absurd (let e : None ≡ Some x = h in cc)
found_in t (z ∷ xs) x h =
    elim (cases_Bool (t z)) [
      | inl yes' ↦ (let h' : Some z ≡ Some x = rw yes' at h in let e : z ≡ x = cc in
          record { is_in = record { place = 0; at = h' }; pass = subst (λ w. t w ≡ true) e yes' })
      | inr no' ↦ (let h' : find t xs ≡ Some x = rw no' at h in let r = found_in t xs x h' in
          record { is_in = in_more z x xs r.is_in; pass = r.pass })
    ]

-- what is found is complete, and has what the offers keep
pub found_has : {R : Type 0} (s : System R) (e : ℕ) (P : List R → Type 0)
    → ((d : List R) (r : R) → P d → IsOffered s e d r → P (after d r)) → P [] → (d : List R)
    → find s.complete (partial s e) ≡ Some d → P d × (s.complete d ≡ true)
found_has s e P keeps p d h = let f = found_in s.complete (partial s e) d h in
    (each_member s e P keeps s.limit [] p d f.is_in, f.pass)

-- more fuel than the limit changes nothing: `members` is cut nowhere
pub enough : {R : Type 0} (s : System R) (e n : ℕ) (d : List R) → s.limit ≤ n + length d → members s e n d ≡ tree s e d
enough s e zero d h = let m : 0 ≡ s.limit - length d = omega arith in ap (λ k. members s e k d) m
enough s e (suc n) d h =
    ap (λ ds. d ∷ ds) (flat_map_same (λ r. members s e n (after d r)) (λ r. tree s e (after d r)) (offers s e d)
    (λ r. enough s e n (after d r) (omega (arith, length-after d r))))
    ∙ sym (tree_is s e d)

flat_map_in : {X Y : Type 0} (f g : X → List Y) (xs : List X) → ((x : X) → IsIn xs x → f x ≡ g x)
    → flat_map f xs ≡ flat_map g xs
flat_map_in f g [] h = refl
flat_map_in f g (x ∷ xs) h =
    let e = h x (record { place = 0; at = refl }) in
    let r = flat_map_in f g xs (λ y i. h y (in_more x y xs i)) in cc

in_left : {X : Type 0} (xs ys : List X) (i : ℕ) (x : X) → slice_get xs i ≡ Some x → IsIn (xs ++ ys) x
in_left [] ys i x h = absurd (let e : None ≡ Some x = h in cc)
in_left (z ∷ xs) ys zero x h = record { place = 0; at = h }
in_left (z ∷ xs) ys (suc i) x h = in_more z x (xs ++ ys) (in_left xs ys i x h)

in_right : {X : Type 0} (xs ys : List X) (x : X) → IsIn ys x → IsIn (xs ++ ys) x
in_right [] ys x h = h
in_right (z ∷ xs) ys x h = in_more z x (xs ++ ys) (in_right xs ys x h)

in_flat : {X Y : Type 0} (f : X → List Y) (xs : List X) (i : ℕ) (x : X) (y : Y) → slice_get xs i ≡ Some x → IsIn (f x) y
    → IsIn (flat_map f xs) y
in_flat f [] i x y h m = absurd (let e : None ≡ Some x = h in cc)
in_flat f (z ∷ xs) zero x y h m =
    let e : Some z ≡ Some x = h in
    let e' : x ≡ z = cc in
    let m' : IsIn (f z) y = subst (λ w. IsIn (f w) y) e' m in in_left (f z) (flat_map f xs) m'.place y m'.at
in_flat f (z ∷ xs) (suc i) x y h m = in_right (f z) (flat_map f xs) y (in_flat f xs i x y h m)

-- where each member has the same offers within e and within e', the members are the same
pub members_same : {R : Type 0} (s : System R) (e e' n : ℕ) (d : List R)
    → ((m : List R) → IsIn (members s e n d) m → offers s e m ≡ offers s e' m) → members s e n d ≡ members s e' n d
members_same s e e' zero d h = refl
members_same s e e' (suc n) d h =
    ap (λ ds. d ∷ ds)
    (flat_map_in (λ r. members s e n (after d r)) (λ r. members s e' n (after d r)) (offers s e d)
    (λ r i. members_same s e e' n (after d r)
    (λ m j. h m (in_more d m (flat_map (λ x. members s e n (after d x)) (offers s e d))
    (in_flat (λ x. members s e n (after d x)) (offers s e d) i.place r m i.at j))))
    ∙ ap (flat_map (λ r. members s e' n (after d r))) (h d (record { place = 0; at = refl })))
