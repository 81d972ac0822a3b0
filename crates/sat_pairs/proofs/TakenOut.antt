-- An entry of a list that is read, or taken out.
use Rattle.std.proofs.Common.{◌≡◌, ℕ, zero, suc, ◌+◌, ◌<◌, List, [], ◌∷◌, ◌++◌, length, get_or, take, drop, arith, sym}
use Rattle.std.proofs.Common.{ap, ◌∙◌}
use Rattle.std.specs.Prelude.{slice_index_or}
use Rattle.pair_family.specs.Reordering.{IsTakenOut}

split_at : {X : Type 0} (xs : List X) (i : ℕ) (x : X) → i < length xs → x ≡ get_or xs i x
    → xs ≡ take i xs ++ (x ∷ drop (suc i) xs)
split_at [] i x l e = absurd (omega arith)
split_at (y ∷ xs) zero x l e = ap (λ z. z ∷ xs) (sym e)
split_at (y ∷ xs) (suc i) x l e = ap (λ z. y ∷ z) (split_at xs i x (omega arith) e)

pub taken_out : {X : Type 0} (xs new : List X) (i : ℕ) (x : X) → i < length xs → x ≡ get_or xs i x
    → new ≡ take i xs ++ drop (i + 1) xs → IsTakenOut xs new x
taken_out xs new i x l e f =
    let s : i + 1 ≡ suc i = omega arith in
    (take i xs, drop (suc i) xs, split_at xs i x l e, f ∙ ap (λ z. take i xs ++ drop z xs) s)

-- an entry that was read
pub read_at : {X : Type 0} (xs : List X) (i : ℕ) (x d : X) → i < length xs → get_or xs i x ≡ x
    → x ≡ slice_index_or xs i d
read_at [] i x d l e = absurd (omega arith)
read_at (y ∷ xs) zero x d l e = sym e
read_at (y ∷ xs) (suc i) x d l e = read_at xs i x d (omega arith) e
