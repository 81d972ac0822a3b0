-- Members of lists.
use Rattle.std.proofs.Common.{◌≡◌, ℕ, zero, suc, ◌<◌, ◌⊎◌, inl, inr, List, [], ◌∷◌, ◌++◌, map, filter, arith, Bool}
use Rattle.std.proofs.Common.{true, false, sym, refl, ap, subst}
use Rattle.std.proofs.lemmas.Bool.{cases_lt, cases_Bool, or_cases, or_left, or_right, both_ways}
use Rattle.std.specs.List.{list_any}
use Rattle.heap_formula.specs.Words.{Each}
use Rattle.pair_family.specs.Combination.{upto, pairs_below}
use Rattle.cyc_basics.specs.Words.{IsMember}

pub each_at : {X : Type 0} (P : X → Type 0) (xs : List X) (x : X) → Each P xs → IsMember x xs → P x
each_at P [] x e i = absurd i
each_at P (y ∷ xs) x e (inl s) = subst P s e.0
each_at P (y ∷ xs) x e (inr i) = each_at P xs x e.1 i

pub at_each : {X : Type 0} (P : X → Type 0) (xs : List X) → ((x : X) → IsMember x xs → P x) → Each P xs
at_each P [] f = tt
at_each P (x ∷ xs) f = (f x (inl refl), at_each P xs (λ y i. f y (inr i)))

pub in_left : {X : Type 0} (x : X) (xs ys : List X) → IsMember x xs → IsMember x (xs ++ ys)
in_left x [] ys i = absurd i
in_left x (y ∷ xs) ys (inl s) = inl s
in_left x (y ∷ xs) ys (inr i) = inr (in_left x xs ys i)

pub in_right : {X : Type 0} (x : X) (xs ys : List X) → IsMember x ys → IsMember x (xs ++ ys)
in_right x [] ys i = i
in_right x (y ∷ xs) ys i = inr (in_right x xs ys i)

pub in_append : {X : Type 0} (x : X) (xs ys : List X) → IsMember x (xs ++ ys) → IsMember x xs ⊎ IsMember x ys
in_append x [] ys i = inr i
in_append x (y ∷ xs) ys (inl s) = inl (inl s)
in_append x (y ∷ xs) ys (inr i) = elim (in_append x xs ys i) [ inl a ↦ inl (inr a) | inr b ↦ inr b ]

pub map_each : {X Y : Type 0} (P : Y → Type 0) (f : X → Y) (xs : List X) → Each P (map f xs) → Each (λ x. P (f x)) xs
map_each P f [] e = tt
map_each P f (x ∷ xs) e = (e.0, map_each P f xs e.1)

pub in_map : {X Y : Type 0} (f : X → Y) (x : X) (xs : List X) → IsMember x xs → IsMember (f x) (map f xs)
in_map f x [] i = absurd i
in_map f x (y ∷ xs) (inl s) = inl (ap f s)
in_map f x (y ∷ xs) (inr i) = inr (in_map f x xs i)

pub map_in : {X Y : Type 0} (f : X → Y) (y : Y) (xs : List X) → IsMember y (map f xs)
    → (x : X) × IsMember x xs × (f x ≡ y)
map_in f y [] i = absurd i
map_in f y (x ∷ xs) (inl s) = (x, inl refl, s)
map_in f y (x ∷ xs) (inr i) = let r = map_in f y xs i in (r.0, inr r.1, r.2)

pub in_filter : {X : Type 0} (t : X → Bool) (x : X) (xs : List X) → IsMember x xs → t x ≡ true
    → IsMember x (filter t xs)
in_filter t x [] i p = absurd i
in_filter t x (y ∷ xs) (inl s) p = let p' : t y ≡ true = subst (λ z. t z ≡ true) (sym s) p in rw p' (inl s)
in_filter t x (y ∷ xs) (inr i) p =
    elim (cases_Bool (t y)) [
      | inl yes' ↦ rw yes' (inr (in_filter t x xs i p))
      | inr no' ↦ rw no' (in_filter t x xs i p)
    ]

pub filter_in : {X : Type 0} (t : X → Bool) (x : X) (xs : List X) → IsMember x (filter t xs)
    → IsMember x xs × (t x ≡ true)
filter_in t x [] i = absurd i
filter_in {X = X} t x (y ∷ xs) i =
    elim (cases_Bool (t y)) [
      | inl yes' ↦
          (let i' : IsMember x (y ∷ filter t xs) = rw yes' at i in
          elim i' [
            | inl s ↦ (inl s, subst (λ z. t z ≡ true) s yes')
            | inr k ↦
                (let r = filter_in t x xs k in (inr r.0, r.1))
          ])
      | inr no' ↦ (let i' : IsMember x (filter t xs) = rw no' at i in let r = filter_in t x xs i' in (inr r.0, r.1))
    ]

pub any_in : {X : Type 0} (t : X → Bool) (xs : List X) → list_any t xs ≡ true → (x : X) × IsMember x xs × (t x ≡ true)
any_in t [] h = absurd (both_ways false refl h)
any_in t (x ∷ xs) h =
    elim (or_cases _ _ h) [ inl e ↦ (x, inl refl, e) | inr m ↦ (let r = any_in t xs m in (r.0, inr r.1, r.2)) ]

pub in_any : {X : Type 0} (t : X → Bool) (xs : List X) (x : X) → IsMember x xs → t x ≡ true → list_any t xs ≡ true
in_any t [] x i p = absurd i
in_any t (y ∷ xs) x (inl s) p = or_left _ _ (subst (λ z. t z ≡ true) (sym s) p)
in_any t (y ∷ xs) x (inr i) p = or_right _ _ (in_any t xs x i p)

pub in_upto : (n i : ℕ) → i < n → IsMember i (upto n)
in_upto zero i l = absurd (omega arith)
in_upto (suc n) i l =
    elim (cases_lt i n) [
      | inl a ↦ in_left i (upto n) (n ∷ []) (in_upto n i a)
      | inr b ↦ in_right i (upto n) (n ∷ []) (inl (omega arith))
    ]

pub upto_in : (n i : ℕ) → IsMember i (upto n) → i < n
upto_in zero i m = absurd m
upto_in (suc n) i m =
    elim (in_append i (upto n) (n ∷ []) m) [
      | inl a ↦ (let l = upto_in n i a in omega arith)
      | inr b ↦ elim b [ inl s ↦ omega arith | inr no' ↦ absurd no' ]
    ]

pub in_pairs : (n i j : ℕ) → i < j → j < n → IsMember (i, j) (pairs_below n)
in_pairs zero i j l m = absurd (omega arith)
in_pairs (suc n) i j l m =
    elim (cases_lt j n) [
      | inl a ↦ in_left (i, j) (pairs_below n) (map (λ k. (k, n)) (upto n)) (in_pairs n i j l a)
      | inr b ↦
          (let e : j ≡ n = omega arith in
          in_right (i, j) (pairs_below n) (map (λ k. (k, n)) (upto n))
          (subst (λ x. IsMember {X = ℕ × ℕ} (i, x) (map (λ k. (k, n)) (upto n))) (sym e)
          (in_map (λ k. (k, n)) i (upto n) (in_upto n i (omega arith)))))
    ]

pub pairs_in : (n : ℕ) (q : ℕ × ℕ) → IsMember q (pairs_below n) → (q.0 < q.1) × (q.1 < n)
pairs_in zero q m = absurd m
pairs_in (suc n) q m =
    elim (in_append q (pairs_below n) (map (λ k. (k, n)) (upto n)) m) [
      | inl a ↦ (let r = pairs_in n q a in (r.0, omega arith))
      | inr b ↦
          (let r = map_in (λ k. (k, n)) q (upto n) b in
          let l = upto_in n r.0 r.1 in
          let e0 : r.0 ≡ q.0 = ap (λ x. x.0) r.2 in
          let e1 : n ≡ q.1 = ap (λ x. x.1) r.2 in (omega arith, omega arith))
    ]
