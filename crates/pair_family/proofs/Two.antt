-- Each two entries of a list.
use Rattle.std.proofs.Common.{◌≡◌, ℕ, zero, suc, ◌<◌, ◌⊎◌, inl, inr, List, [], ◌∷◌, ◌++◌, map, filter, arith, Bool, sym}
use Rattle.std.proofs.Common.{ap, ◌∙◌, subst}
use Rattle.std.proofs.lemmas.Bool.{cases_Bool}
use Rattle.pair_family.specs.Combination.{each_two, upto}
use Rattle.pair_family.proofs.Lists.{in_left, in_right, in_append, in_map, map_in, filter_in, upto_in}
use Rattle.cyc_basics.specs.Words.{IsMember}

pub two_in : {X : Type 0} (q : X × X) (xs : List X) → IsMember q (each_two xs) → IsMember q.0 xs × IsMember q.1 xs
two_in q [] i = absurd i
two_in q (x ∷ xs) i =
    elim (in_append q (map (λ u. (x, u)) xs) (each_two xs) i) [
      | inl a ↦
          (let r = map_in (λ u. (x, u)) q xs a in
          (inl (ap (λ z. z.0) r.2), inr (subst (λ z. IsMember z xs) (ap (λ z. z.1) r.2) r.1)))
      | inr b ↦ (let r = two_in q xs b in (inr r.0, inr r.1))
    ]

-- two places of a list have one entry, or stand among its twos
pub in_two : {X : Type 0} (x y : X) (xs : List X) → IsMember x xs → IsMember y xs
    → (x ≡ y) ⊎ (IsMember (x, y) (each_two xs) ⊎ IsMember (y, x) (each_two xs))
in_two x y [] i j = absurd i
in_two x y (z ∷ xs) (inl s) (inl r) = inl (sym s ∙ r)
in_two {X = X} x y (z ∷ xs) (inl s) (inr j) =
    inr (inl (in_left (x, y) (map (λ u. (z, u)) xs) (each_two xs)
    (subst (λ w. IsMember {X = X × X} (w, y) (map (λ u. (z, u)) xs)) s (in_map (λ u. (z, u)) y xs j))))
in_two {X = X} x y (z ∷ xs) (inr i) (inl r) =
    inr (inr (in_left (y, x) (map (λ u. (z, u)) xs) (each_two xs)
    (subst (λ w. IsMember {X = X × X} (w, x) (map (λ u. (z, u)) xs)) r (in_map (λ u. (z, u)) x xs i))))
in_two x y (z ∷ xs) (inr i) (inr j) =
    elim (in_two x y xs i j) [
      | inl e ↦ inl e
      | inr o ↦ elim o [
        | inl a ↦ inr (inl (in_right (x, y) (map (λ u. (z, u)) xs) (each_two xs) a))
        | inr b ↦ inr (inr (in_right (y, x) (map (λ u. (z, u)) xs) (each_two xs) b))
      ]
    ]

pub two_append : {X : Type 0} (q : X × X) (xs ys : List X) → IsMember q (each_two (xs ++ ys))
    → IsMember q (each_two xs) ⊎ ((IsMember q.0 xs × IsMember q.1 ys) ⊎ IsMember q (each_two ys))
two_append q [] ys i = inr (inr i)
two_append q (x ∷ xs) ys i =
    elim (in_append q (map (λ u. (x, u)) (xs ++ ys)) (each_two (xs ++ ys)) i) [
      | inl a ↦
          (let r = map_in (λ u. (x, u)) q (xs ++ ys) a in
          elim (in_append r.0 xs ys r.1) [
            | inl b ↦ inl (in_left q (map (λ u. (x, u)) xs) (each_two xs)
                (subst (λ z. IsMember z (map (λ u. (x, u)) xs)) r.2 (in_map (λ u. (x, u)) r.0 xs b)))
            | inr b ↦ inr (inl (inl (ap (λ z. z.0) r.2), subst (λ z. IsMember z ys) (ap (λ z. z.1) r.2) b))
          ])
      | inr a ↦ elim (two_append q xs ys a) [
        | inl b ↦ inl (in_right q (map (λ u. (x, u)) xs) (each_two xs) b)
        | inr o ↦ elim o [
          | inl b ↦ inr (inl (inr b.0, b.1))
          | inr b ↦ inr (inr b)
        ]
      ]
    ]

pub append_two_left : {X : Type 0} (q : X × X) (xs ys : List X) → IsMember q (each_two xs)
    → IsMember q (each_two (xs ++ ys))
append_two_left q [] ys i = absurd i
append_two_left {X = X} q (x ∷ xs) ys i =
    elim (in_append q (map (λ u. (x, u)) xs) (each_two xs) i) [
      | inl a ↦
          (let r = map_in (λ u. (x, u)) q xs a in
          in_left q (map (λ u. (x, u)) (xs ++ ys)) (each_two (xs ++ ys))
          (subst (λ z. IsMember {X = X × X} z (map (λ u. (x, u)) (xs ++ ys))) r.2
          (in_map (λ u. (x, u)) r.0 (xs ++ ys) (in_left r.0 xs ys r.1))))
      | inr b ↦ in_right q (map (λ u. (x, u)) (xs ++ ys)) (each_two (xs ++ ys)) (append_two_left q xs ys b)
    ]

pub append_two_right : {X : Type 0} (q : X × X) (xs ys : List X) → IsMember q (each_two ys)
    → IsMember q (each_two (xs ++ ys))
append_two_right q [] ys i = i
append_two_right q (x ∷ xs) ys i = in_right q (map (λ u. (x, u)) (xs ++ ys)) (each_two (xs ++ ys))
    (append_two_right q xs ys i)

pub append_two_cross : {X : Type 0} (x y : X) (xs ys : List X) → IsMember x xs → IsMember y ys
    → IsMember (x, y) (each_two (xs ++ ys))
append_two_cross x y [] ys i j = absurd i
append_two_cross {X = X} x y (z ∷ xs) ys (inl s) j =
    in_left (x, y) (map (λ u. (z, u)) (xs ++ ys)) (each_two (xs ++ ys))
    (subst (λ w. IsMember {X = X × X} (w, y) (map (λ u. (z, u)) (xs ++ ys))) s
    (in_map (λ u. (z, u)) y (xs ++ ys) (in_right y xs ys j)))
append_two_cross x y (z ∷ xs) ys (inr i) j = in_right (x, y) (map (λ u. (z, u)) (xs ++ ys)) (each_two (xs ++ ys))
    (append_two_cross x y xs ys i j)

pub map_two : {X Y : Type 0} (f : X → Y) (q : Y × Y) (xs : List X) → IsMember q (each_two (map f xs))
    → (r : X × X) × IsMember r (each_two xs) × (f r.0 ≡ q.0) × (f r.1 ≡ q.1)
map_two f q [] i = absurd i
map_two {X = X} f q (x ∷ xs) i =
    elim (in_append q (map (λ u. (f x, u)) (map f xs)) (each_two (map f xs)) i) [
      | inl a ↦
          (let r = map_in (λ u. (f x, u)) q (map f xs) a in
          let t = map_in f r.0 xs r.1 in
          let p : X × X = (x, t.0) in (
            p,
            in_left p (map (λ u. (x, u)) xs) (each_two xs) (in_map (λ u. (x, u)) t.0 xs t.1),
            ap (λ z. z.0) r.2,
            t.2
                ∙ ap (λ z. z.1) r.2,
          ))
      | inr b ↦ (let r = map_two f q xs b in (r.0, in_right r.0 (map (λ u. (x, u)) xs) (each_two xs) r.1, r.2, r.3))
    ]

pub two_filter : {X : Type 0} (t : X → Bool) (q : X × X) (xs : List X) → IsMember q (each_two (filter t xs))
    → IsMember q (each_two xs)
two_filter t q [] i = absurd i
two_filter {X = X} t q (x ∷ xs) i =
    elim (cases_Bool (t x)) [
      | inl yes' ↦
          (let i' : IsMember q (each_two (x ∷ filter t xs)) = rw yes' at i in
          elim (in_append q (map (λ u. (x, u)) (filter t xs)) (each_two (filter t xs)) i') [
            | inl a ↦
                (let r = map_in (λ u. (x, u)) q (filter t xs) a in
                in_left q (map (λ u. (x, u)) xs) (each_two xs)
                (subst (λ z. IsMember {X = X × X} z (map (λ u. (x, u)) xs)) r.2
                (in_map (λ u. (x, u)) r.0 xs (filter_in t r.0 xs r.1).0)))
            | inr b ↦ in_right q (map (λ u. (x, u)) xs) (each_two xs) (two_filter t q xs b)
          ])
      | inr no' ↦
          (let i' : IsMember q (each_two (filter t xs)) = rw no' at i in
          in_right q (map (λ u. (x, u)) xs) (each_two xs) (two_filter t q xs i'))
    ]

pub two_upto : (n : ℕ) (q : ℕ × ℕ) → IsMember q (each_two (upto n)) → q.0 < q.1
two_upto zero q i = absurd i
two_upto (suc n) q i =
    elim (two_append q (upto n) (n ∷ []) i) [
      | inl a ↦ two_upto n q a
      | inr o ↦ elim o [
        | inl a ↦ (let l = upto_in n q.0 a.0 in elim a.1 [ inl s ↦ omega arith | inr b ↦ absurd b ])
        | inr b ↦ absurd b
      ]
    ]
