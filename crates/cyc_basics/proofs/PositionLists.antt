-- Look-ups in lists: within the length, in a list mapped, and after an append.
use Rattle.std.proofs.Common.{◌≡◌, ℕ, zero, suc, List, [], ◌∷◌, map, length, Some, None, slice_get, refl, ap}

pub record MapAt {X Y : Type 0} (f : X → Y) (xs : List X) (i : ℕ) (y : Y) : Type 0 where
  pub x : X
  pub is_x : slice_get xs i ≡ Some x
  pub value : f x ≡ y

pub map_at : {X Y : Type 0} (f : X → Y) (xs : List X) (i : ℕ) (y : Y) → slice_get (map f xs) i ≡ Some y → MapAt f xs i y
map_at f [] i y h = absurd (let e : None ≡ Some y = h in cc)
map_at f (x ∷ xs) zero y h = let e : Some (f x) ≡ Some y = h in let e' : f x ≡ y = cc in
    record { x = x; is_x = refl; value = e' }
map_at f (x ∷ xs) (suc i) y h = let r = map_at f xs i y h in record { x = r.x; is_x = r.is_x; value = r.value }

pub map_length : {X Y : Type 0} (f : X → Y) (xs : List X) → length (map f xs) ≡ length xs
map_length f [] = refl
map_length f (x ∷ xs) = ap suc (map_length f xs)
