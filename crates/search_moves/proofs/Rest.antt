-- What is left of a list that is gone through.
use Rattle.std.proofs.Common.{◌≡◌, ℕ, zero, suc, ◌+◌, ◌<◌, ◌≤◌, List, [], ◌∷◌, ◌++◌, length, drop, get_or, drop-cons}
use Rattle.std.proofs.Common.{arith, refl, sym, ap, ◌∙◌, append_assoc, add-one}
use Rattle.std.proofs.lemmas.List.{append-nil, drop_all}
use Rattle.search_moves.specs.Places.{each_from, each_of}

next_member : {X Y : Type 0} (f : ℕ → X → List Y) (n k : ℕ) (xs : List X) → k < length xs
    → (x : X) × (each_from f n (drop k xs) ≡ f n x ++ each_from f (suc n) (drop (suc k) xs))
next_member f n k [] h = absurd (omega arith)
next_member f n zero (x ∷ xs) h = (x, refl)
next_member f n (suc k) (x ∷ xs) h = next_member f n k xs (omega arith)

-- what the member at place k gives, before the others
pub next_given : {X Y : Type 0} (f : ℕ → X → List Y) (k : ℕ) (xs : List X) → k < length xs
    → (x : X) × (each_from f k (drop k xs) ≡ f k x ++ each_from f (k + 1) (drop (k + 1) xs))
next_given f k xs h = rw (add-one) (next_member f k k xs h)

-- what was given, then what the next member gives, then the rest
pub given_on : {Y : Type 0} (items next rest all : List Y) → items ++ (next ++ rest) ≡ all
    → (items ++ next) ++ rest ≡ all
given_on items next rest all h = append_assoc items next rest ∙ h

-- what the member x at place k gives is given
pub step_on : {X Y : Type 0} (f : ℕ → X → List Y) (k : ℕ) (xs : List X) (x : X) (items items' all : List Y)
    → k < length xs → x ≡ get_or xs k x → items' ≡ items ++ f k x → items ++ each_from f k (drop k xs) ≡ all
    → items' ++ each_from f (k + 1) (drop (k + 1) xs) ≡ all
step_on f k xs x items items' all l at given so_far =
    let rest = each_from f (suc k) (drop (suc k) xs) in
    let cut : drop k xs ≡ x ∷ drop (suc k) xs = drop-cons xs k x l ∙ ap (λ z. z ∷ drop (suc k) xs) (sym at) in
    let before : items ++ (f k x ++ rest) ≡ all = rw cut at so_far in
    rw (add-one, given, append_assoc items (f k x) rest) before

-- after the last member nothing is left to give
pub all_given : {X Y : Type 0} (f : ℕ → X → List Y) (k : ℕ) (xs : List X) (items all : List Y) → length xs ≤ k
    → items ++ each_from f k (drop k xs) ≡ all → items ≡ all
all_given f k xs items all l so_far =
    let h : items ++ [] ≡ all = rw (drop_all k xs l) at so_far in sym (append-nil items) ∙ h

-- the same of what each member gives, whatever its place
pub step_of : {X Y : Type 0} (f : X → List Y) (k : ℕ) (xs : List X) (x : X) (items items' all : List Y) → k < length xs
    → x ≡ get_or xs k x → items' ≡ items ++ f x → items ++ each_of f (drop k xs) ≡ all
    → items' ++ each_of f (drop (k + 1) xs) ≡ all
step_of f k xs x items items' all l at given so_far =
    let rest = each_of f (drop (suc k) xs) in
    let cut : drop k xs ≡ x ∷ drop (suc k) xs = drop-cons xs k x l ∙ ap (λ z. z ∷ drop (suc k) xs) (sym at) in
    let before : items ++ (f x ++ rest) ≡ all = rw cut at so_far in
    rw (add-one, given, append_assoc items (f x) rest) before
