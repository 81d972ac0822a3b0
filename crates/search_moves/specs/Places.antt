-- What a list offers, place by place.
use Rattle.std.specs.Prelude.{ℕ, suc, List, [], ◌∷◌, ◌++◌, Bool, if◌then◌else◌, Option, Some, None}
use Rattle.cyc_basics.specs.Words.{or_else}

-- what f gives of each member and its place, in order, the first member standing at place k
abbrev pub each_from : {X Y : Type 0} → (ℕ → X → List Y) → ℕ → List X → List Y
each_from f k [] = []
each_from f k (x ∷ xs) = f k x ++ each_from f (suc k) xs

abbrev pub each_place : {X Y : Type 0} → (ℕ → X → List Y) → List X → List Y
each_place f xs = each_from f 0 xs

-- what f gives of each member, in order
abbrev pub each_of : {X Y : Type 0} → (X → List Y) → List X → List Y
each_of f [] = []
each_of f (x ∷ xs) = f x ++ each_of f xs

abbrev pub if_some : {X : Type 0} → Option X → List X
if_some None = []
if_some (Some x) = x ∷ []

-- the first line that applies
abbrev pub first_line : {X : Type 0} → List (List X) → List X
first_line [] = []
first_line (xs ∷ lines) = or_else xs (first_line lines)

-- what f gives of the first member of which it gives something
abbrev pub first_from : {X Y : Type 0} → (ℕ → X → List Y) → ℕ → List X → List Y
first_from f k [] = []
first_from f k (x ∷ xs) = or_else (f k x) (first_from f (suc k) xs)

abbrev pub first_place : {X Y : Type 0} → (ℕ → X → List Y) → List X → List Y
first_place f xs = first_from f 0 xs

-- the first member that passes
abbrev pub first_that : {X : Type 0} → (X → Bool) → List X → List X
first_that t [] = []
first_that t (x ∷ xs) = if t x then x ∷ [] else first_that t xs
