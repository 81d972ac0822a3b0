-- The members that pass a test are moved to the front of a list, at most so many.
use Rattle.std.proofs.Common.{◌≡◌, ℕ, suc, Bool, true, false, ◌+◌, ◌-◌, ◌<◌, ◌≤◌, ◌⊎◌, inl, inr, List, [], ◌∷◌, ◌++◌}
use Rattle.std.proofs.Common.{append_assoc, length, length-set, take, drop, set, get_or, take_all, drop-set-lt}
use Rattle.std.proofs.Common.{drop-cons, add-one, eq-or-lt_of_le, refl, sym, ap, ◌∙◌, arith}
use Rattle.std.proofs.lemmas.Grind.{take-set_at}
use Rattle.std.proofs.lemmas.List.{take-set-le}
use Rattle.std.specs.Prelude.{if◌then◌else◌}
use Rattle.std.specs.List.{filter, SwappedAt}
use Rattle.search_moves.specs.Places.{first_that}

kept_length : {X : Type 0} (p : X → Bool) (xs : List X) → length (filter p xs) ≤ length xs
kept_length p [] = omega arith
kept_length p (x ∷ xs) = by (p x) (kept_length p xs)
  where
    by : (b : Bool) → length (filter p xs) ≤ length xs
        → length (if b then x ∷ filter p xs else filter p xs) ≤ length (x ∷ xs)
    by true few = omega arith
    by false few = omega arith

pub first_of_filter : {X : Type 0} (p : X → Bool) (xs : List X) → take 1 (filter p xs) ≡ first_that p xs
first_of_filter p [] = refl
first_of_filter p (x ∷ xs) = by (p x) (first_of_filter p xs)
  where
    by : (b : Bool) → take 1 (filter p xs) ≡ first_that p xs
        → take 1 (if b then x ∷ filter p xs else filter p xs) ≡ (if b then x ∷ [] else first_that p xs)
    by true e = refl
    by false e = e

-- all of them, where so many are wanted
pub kept_all : {X : Type 0} (p : X → Bool) (xs : List X) (n : ℕ) → n ≡ length xs → take n (filter p xs) ≡ filter p xs
kept_all p xs n e = let few = kept_length p xs in take_all n (filter p xs) (omega arith)

-- the member at place k comes to place i, a place before it or its own
moved : {X : Type 0} (xs ys : List X) (i k : ℕ) (d : X) → i ≤ k → k < length xs → SwappedAt xs ys i k
    → take (i + 1) ys ≡ take i xs ++ get_or xs k d ∷ []
moved {X} xs ys i k d le l swapped = ap (take (i + 1)) (swapped.3 d) ∙ by (eq-or-lt_of_le le)
  where
    by : (i ≡ k) ⊎ (i < k) → take (i + 1) (set (set xs i (get_or xs k d)) k (get_or xs i d)) ≡ take i xs
        ++ get_or xs k d ∷ []
    by (inl e) = rw (sym e) (let long = length-set xs i (get_or xs i d) in
        take-set_at (set xs i (get_or xs i d)) i (i + 1) (get_or xs i d) refl (omega arith)
        ∙ ap (λ front. front ++ get_or xs i d ∷ []) (take-set-le i xs i (get_or xs i d) (omega arith)))
    by (inr lt) = take-set-le (i + 1) (set xs i (get_or xs k d)) k (get_or xs i d) (omega arith)
        ∙ take-set_at xs i (i + 1) (get_or xs k d) refl (omega arith)

stays : {X : Type 0} (xs ys : List X) (i k : ℕ) (d : X) → i ≤ k → SwappedAt xs ys i k
    → drop (k + 1) ys ≡ drop (k + 1) xs
stays xs ys i k d le swapped = ap (drop (k + 1)) (swapped.3 d)
    ∙ drop-set-lt (k + 1) (set xs i (get_or xs k d)) k (get_or xs i d) (omega arith)
    ∙ drop-set-lt (k + 1) xs i (get_or xs k d) (omega arith)

-- one turn: the member at place k passes
pub one_more : {X : Type 0} (p : X → Bool) (xs ys whole : List X) (i k most : ℕ) (d : X) → i ≤ k → k < length xs
    → i < most → p (get_or xs k d) ≡ true → SwappedAt xs ys i k
    → take i xs ++ take (most - i) (filter p (drop k xs)) ≡ whole
    → take (i + 1) ys ++ take (most - (i + 1)) (filter p (drop (k + 1) ys)) ≡ whole
one_more p xs ys whole i k most d le l few passes swapped was =
    ap (λ front. front ++ take (most - (i + 1)) (filter p (drop (k + 1) ys))) (moved xs ys i k d le l swapped)
    ∙ ap (λ rest. (take i xs ++ get_or xs k d ∷ []) ++ take (most - (i + 1)) (filter p rest))
    (stays xs ys i k d le swapped)
    ∙ append_assoc (take i xs) (get_or xs k d ∷ []) (take (most - (i + 1)) (filter p (drop (k + 1) xs)))
    ∙ ap (λ rest. take i xs ++ rest) (sym (taken (most - i) (most - (i + 1)) (omega arith)))
    ∙ was
  where
    taken : (n m : ℕ) → n ≡ suc m → take n (filter p (drop k xs)) ≡ get_or xs k d ∷ take m (filter p (drop (k + 1) xs))
    taken n m e = rw (e, drop-cons xs k d l, passes, add-one) refl

-- it does not
pub none_more : {X : Type 0} (p : X → Bool) (xs whole : List X) (i k most : ℕ) (d : X) → k < length xs
    → p (get_or xs k d) ≡ false → take i xs ++ take (most - i) (filter p (drop k xs)) ≡ whole
    → take i xs ++ take (most - i) (filter p (drop (k + 1) xs)) ≡ whole
none_more p xs whole i k most d l fails was = ap (λ rest. take i xs ++ take (most - i) rest) (sym passed) ∙ was
  where
    passed : filter p (drop k xs) ≡ filter p (drop (k + 1) xs)
    passed = rw (drop-cons xs k d l, fails, add-one) refl

-- so many are kept already
pub enough : {X : Type 0} (p : X → Bool) (xs whole : List X) (i k most : ℕ) → most ≤ i
    → take i xs ++ take (most - i) (filter p (drop k xs)) ≡ whole
    → take i xs ++ take (most - i) (filter p (drop (k + 1) xs)) ≡ whole
enough p xs whole i k most le was = ap (λ rest. take i xs ++ rest) (by (most - i) (omega arith)) ∙ was
  where
    by : (n : ℕ) → n ≡ 0 → take n (filter p (drop (k + 1) xs)) ≡ take n (filter p (drop k xs))
    by n e = rw e refl
