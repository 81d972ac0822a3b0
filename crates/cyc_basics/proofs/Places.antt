-- The member at a place of a list.
use Rattle.std.proofs.Common.{◌≡◌, ℕ, zero, suc, ◌+◌, ◌<◌, List, [], ◌∷◌, ◌++◌, length, get_or, take, drop, Bool, true}
use Rattle.std.proofs.Common.{false, cond, Some, None, slice_get, slice_index, refl, sym, ap, ◌∙◌, add-one, map, arith}
use Rattle.std.proofs.Common.{Option}
use Rattle.std.specs.Prelude.{position, nat_lt}
use Rattle.std.specs.List.{position_or_len}
use Rattle.std.proofs.lemmas.List.{drop_more}
use Rattle.std.proofs.lemmas.Option.{slice_get-get_or, slice_get_within}
use Rattle.std.proofs.lemmas.Bool.{true≢false}
use Rattle.cyc_basics.specs.Words.{tabulated}

pub at_index : {X : Type 0} (xs : List X) (k : ℕ) (d x : X) → k < length xs → get_or xs k d ≡ x
    → slice_get xs k ≡ Some x
at_index xs k d x h e = slice_get-get_or xs k d h ∙ ap Some e

pub get_end : {X : Type 0} (xs : List X) (x : X) → slice_get (xs ++ x ∷ []) (length xs) ≡ Some x
get_end [] x = refl
get_end (y ∷ xs) x = get_end xs x

pub get_taken : {X : Type 0} (xs : List X) (n k : ℕ) (x : X) → slice_get (take n xs) k ≡ Some x
    → slice_get xs k ≡ Some x
get_taken [] zero k x e = e
get_taken [] (suc n) k x e = e
get_taken (y ∷ xs) zero k x e = cc
get_taken (y ∷ xs) (suc n) zero x e = e
get_taken (y ∷ xs) (suc n) (suc k) x e = get_taken xs n k x e

pub take_get_suc : {X : Type 0} (xs : List X) (v : ℕ) (x : X) → slice_get xs v ≡ Some x
    → take (suc v) xs ≡ take v xs ++ x ∷ []
take_get_suc [] v x e = absurd cc
take_get_suc (y ∷ xs) zero x e = let same : y ≡ x = cc in ap (λ z. z ∷ []) same
take_get_suc (y ∷ xs) (suc v) x e = ap (λ zs. y ∷ zs) (take_get_suc xs v x e)

pub take_get : {X : Type 0} (xs : List X) (v : ℕ) (x : X) → slice_get xs v ≡ Some x
    → take (v + 1) xs ≡ take v xs ++ x ∷ []
take_get xs v x e = rw add-one (take_get_suc xs v x e)

pub drop_get : {X : Type 0} (xs : List X) (k : ℕ) (x : X) → slice_get xs k ≡ Some x → drop k xs ≡ x ∷ drop (suc k) xs
drop_get [] k x e = cc
drop_get (y ∷ xs) zero x e = let same : y ≡ x = cc in ap (λ z. z ∷ xs) same
drop_get (y ∷ xs) (suc k) x e = drop_get xs k x e

-- what is left from a place on, by the member that was read there
pub drop_read : {X : Type 0} (xs : List X) (i : ℕ) (x : X) → i < length xs → x ≡ get_or xs i x
    → drop i xs ≡ x ∷ drop (i + 1) xs
drop_read xs i x h e = drop_more xs i x h ∙ ap (λ y. y ∷ drop (i + 1) xs) (sym e)

pub position_at : {X : Type 0} (p : X → Bool) (xs : List X) (i : ℕ) → position p xs ≡ Some i → position_or_len p xs ≡ i
position_at p xs i h = by (nat_lt (position_or_len p xs) (length xs)) h
  where
    by : (b : Bool) → cond b (Some (position_or_len p xs)) None ≡ Some i → position_or_len p xs ≡ i
    by true e = let z : Some (position_or_len p xs) ≡ Some i = e in cc
    by false e = absurd (let z : None ≡ Some i = e in cc)

pub get_within : {X : Type 0} (xs : List X) (i : ℕ) → i < length xs → (x : X) × (slice_get xs i ≡ Some x)
get_within [] i h = absurd (omega arith)
get_within (x ∷ xs) zero h = (x, refl)
get_within (x ∷ xs) (suc i) h = get_within xs i (omega arith)

pub get_append_left : {X : Type 0} (xs ys : List X) (i : ℕ) (x : X) → slice_get xs i ≡ Some x
    → slice_get (xs ++ ys) i ≡ Some x
get_append_left [] ys i x h = cc
get_append_left (z ∷ xs) ys zero x h = h
get_append_left (z ∷ xs) ys (suc i) x h = get_append_left xs ys i x h

pub get_map : {X Y : Type 0} (f : X → Y) (xs : List X) (i : ℕ) (x : X) → slice_get xs i ≡ Some x
    → slice_get (map f xs) i ≡ Some (f x)
get_map f [] i x h = absurd cc
get_map f (y ∷ xs) zero x h = let same : y ≡ x = cc in ap (λ z. Some (f z)) same
get_map f (y ∷ xs) (suc i) x h = get_map f xs i x h

-- a place whose member passes a test that nothing passes is within the list
pub tested_within : {X : Type 0} (test : Option X → Bool) (xs : List X) (i : ℕ) → test None ≡ false
    → test (slice_get xs i) ≡ true → i < length xs
tested_within {X = X} test xs i fails passes = by (slice_get xs i) refl passes
  where
    by : (o : Option X) → slice_get xs i ≡ o → test o ≡ true → i < length xs
    by None at p = absurd (true≢false (sym p ∙ fails))
    by (Some x) at p = slice_get_within xs i x at

pub tabulated-at : (f : ℕ → ℕ) (n i : ℕ) → i < n → slice_index (tabulated f n) i ≡ f i
tabulated-at f zero i h = absurd (omega arith)
tabulated-at f (suc n) zero h = refl
tabulated-at f (suc n) (suc i) h = tabulated-at (λ k. f (suc k)) n i (omega arith)
