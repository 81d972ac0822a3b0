-- A list made of two lists, member by member; and lists that have the same members.
use Rattle.std.proofs.Common.{◌≡◌, ℕ, zero, suc, List, [], ◌∷◌, Some, None, slice_get, length, refl, ap, ◌∙◌, arith}
use Rattle.std.proofs.lemmas.Option.{slice_get_within}
use Rattle.buchi_core.proofs.Lists.{get_one}
use Rattle.cyc_basics.proofs.Places.{get_within}

-- as long as the shorter one
abbrev pub joined : {X Y Z : Type 0} → (X → Y → Z) → List X → List Y → List Z
joined f [] ys = []
joined f (x ∷ xs) [] = []
joined f (x ∷ xs) (y ∷ ys) = f x y ∷ joined f xs ys

pub length-joined : {X Y Z : Type 0} (f : X → Y → Z) (xs : List X) (ys : List Y) → length xs ≡ length ys →
    length (joined f xs ys) ≡ length ys
length-joined f [] [] size = refl
length-joined f [] (y ∷ ys) size = absurd (omega (arith, size))
length-joined f (x ∷ xs) [] size = absurd (omega (arith, size))
length-joined f (x ∷ xs) (y ∷ ys) size = ap suc (length-joined f xs ys (omega (arith, size)))

pub joined_at : {X Y Z : Type 0} (f : X → Y → Z) (xs : List X) (ys : List Y) (v : ℕ) (x : X) (y : Y) →
    slice_get xs v ≡ Some x → slice_get ys v ≡ Some y → slice_get (joined f xs ys) v ≡ Some (f x y)
joined_at f [] ys v x y a b = absurd (let e : None ≡ Some x = a in cc)
joined_at f (z ∷ xs) [] v x y a b = absurd (let e : None ≡ Some y = b in cc)
joined_at {X} {Y} f (z ∷ xs) (w ∷ ys) zero x y a b =
    let a' : Some z ≡ Some x = a in
    let b' : Some w ≡ Some y = b in
    let same : z ≡ x = cc in
    let same' : w ≡ y = cc in ap (λ (u : X). Some (f u w)) same ∙ ap (λ (u : Y). Some (f x u)) same'
joined_at f (z ∷ xs) (w ∷ ys) (suc v) x y a b = joined_at f xs ys v x y a b

-- the members that a member is made of
pub record IsJoined {X Y Z : Type 0} (f : X → Y → Z) (xs : List X) (ys : List Y) (v : ℕ) (z : Z) : Type 0 where
  pub x : X
  pub is_x : slice_get xs v ≡ Some x
  pub y : Y
  pub is_y : slice_get ys v ≡ Some y
  pub is : f x y ≡ z

pub joined_of : {X Y Z : Type 0} (f : X → Y → Z) (xs : List X) (ys : List Y) → length xs ≡ length ys → (v : ℕ) (z : Z) →
    slice_get (joined f xs ys) v ≡ Some z → IsJoined f xs ys v z
joined_of f xs ys size v z at =
    let less = slice_get_within (joined f xs ys) v z at in
    let long = length-joined f xs ys size in
    let x = get_within xs v (omega (arith, less, long, size)) in
    let y = get_within ys v (omega (arith, less, long)) in
    record {
      x = x.0;
      is_x = x.1;
      y = y.0;
      is_y = y.1;
      is = get_one (joined f xs ys) v (f x.0 y.0) z (joined_at f xs ys v x.0 y.0 x.1 y.1) at;
    }

-- lists are one that have the same members in the same places
pub same_lists : {X : Type 0} (xs ys : List X) → length xs ≡ length ys →
    ((k : ℕ) (x y : X) → slice_get xs k ≡ Some x → slice_get ys k ≡ Some y → x ≡ y) → xs ≡ ys
same_lists [] [] size each = refl
same_lists [] (y ∷ ys) size each = absurd (omega (arith, size))
same_lists (x ∷ xs) [] size each = absurd (omega (arith, size))
same_lists (x ∷ xs) (y ∷ ys) size each =
    let first = each 0 x y refl refl in
    let rest = same_lists xs ys (omega (arith, size)) (λ k v w at at'. each (suc k) v w at at') in λ i. first i ∷ rest i
