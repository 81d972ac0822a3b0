-- What a stack of offers has still to visit.
use Rattle.std.specs.Prelude.{ℕ, ◌-◌, List, [], ◌∷◌, ◌++◌, length, filter, flat_map, reverse}
use Rattle.derivations.specs.System.{System, after, members}

-- all but the last
abbrev pub front : {R : Type 0} → List R → List R
front [] = []
front (x ∷ []) = []
front (x ∷ y ∷ ys) = x ∷ front (y ∷ ys)

-- the members that begin with d
abbrev pub tree : {R : Type 0} → System R → ℕ → List R → List (List R)
tree s e d = members s e (s.limit - length d) d

-- those that begin with d and one of these offers
abbrev pub later : {R : Type 0} → System R → ℕ → List R → List R → List (List R)
later s e d rs = flat_map (λ r. tree s e (after d r)) (filter (s.fits e d) rs)

-- those that begin with an offer of the stack, whose top is first and belongs to d
abbrev pub rest_of : {R : Type 0} → System R → ℕ → List R → List (List R) → List (List R)
rest_of s e d [] = []
rest_of s e d (top ∷ below) = later s e d top ++ rest_of s e (front d) below

-- the same, the top being last
abbrev pub rest : {R : Type 0} → System R → ℕ → List R → List (List R) → List (List R)
rest s e d frames = rest_of s e d (reverse frames)
