-- Whether no goal is open, what is offered to the next goal, and what may be followed there.
use Rattle.std.specs.Prelude.{ℕ, ◌≡◌, ◌+◌, ◌<◌, Bool, true, false, ◌&&◌, ◌||◌, List, [], ◌∷◌, Option, Some, None}
use Rattle.std.specs.Prelude.{length, nat_lt, nat_le}
use Rattle.std.proofs.Common.{refl}
use Rattle.std.proofs.Math.Nat.{le_trans, le-add_right, lt_of_lt_of_le}
use Rattle.std.proofs.Math.Numerals.{lt-add-one}
use Rattle.std.proofs.lemmas.Bool.{leb-true, both_ways, and_parts}
use Rattle.derivations.specs.Tableau.{Subgoal, Goal, Made, Tableau, Calculus}

abbrev pub is_nil : {X : Type 0} → List X → Bool
is_nil [] = true
is_nil (x ∷ xs) = false

-- whether the tableau has no open goal
abbrev pub is_done : {J R : Type 0} → Option (Tableau J R) → Bool
is_done None = false
is_done (Some t) = is_nil t.goals

abbrev pub offered_at : {J R : Type 0} → (List (Made J R) → Goal J → List R) → List (Made J R) → List (Goal J) → List R
offered_at offer nodes [] = []
offered_at offer nodes (g ∷ rest) = offer nodes g

-- what is offered to the next goal
abbrev pub offered : {J R : Type 0} → (List (Made J R) → Goal J → List R) → Option (Tableau J R) → List R
offered offer None = []
offered offer (Some t) = offered_at offer t.nodes t.goals

-- whether a reason's premises fit within depth e and the limit, after n nodes: premises need a depth below e, and the
-- nodes and the open goals are together at most the limit
abbrev pub has_room : {J : Type 0} → ℕ → ℕ → ℕ → Goal J → List (Goal J) → Option (List (Subgoal J)) → Bool
has_room limit e n g rest None = false
has_room limit e n g rest (Some ps) = (is_nil ps || nat_lt g.depth e) && nat_le (n + 1 + (length ps + length rest))
    limit

abbrev pub fits_at : {J R : Type 0} → Calculus J R → ℕ → ℕ → ℕ → List (Made J R) → R → List (Goal J) → Bool
fits_at c limit e n nodes r [] = false
fits_at c limit e n nodes r (g ∷ rest) = has_room limit e n g rest (c.premises nodes g r)

-- whether the reason may be followed at the next goal
abbrev pub fits_in : {J R : Type 0} → Calculus J R → ℕ → ℕ → ℕ → Option (Tableau J R) → R → Bool
fits_in c limit e n None r = false
fits_in c limit e n (Some t) r = fits_at c limit e n t.nodes r t.goals

-- what may be followed stays within the limit
room_short : {J : Type 0} (limit e n : ℕ) (g : Goal J) (rest : List (Goal J)) (ps : Option (List (Subgoal J)))
    → has_room limit e n g rest ps ≡ true → n < limit
room_short limit e n g rest None h = absurd (both_ways false refl h)
room_short limit e n g rest (Some ps) h =
    lt_of_lt_of_le (lt-add-one n) (le_trans (le-add_right (n + 1) (length ps + length rest))
    (leb-true _ _ (and_parts (is_nil ps || nat_lt g.depth e) (nat_le (n + 1 + (length ps + length rest)) limit)
    h).1))

at_short : {J R : Type 0} (c : Calculus J R) (limit e n : ℕ) (nodes : List (Made J R)) (r : R) (goals : List (Goal J))
    → fits_at c limit e n nodes r goals ≡ true → n < limit
at_short c limit e n nodes r [] h = absurd (both_ways false refl h)
at_short c limit e n nodes r (g ∷ rest) h = room_short limit e n g rest (c.premises nodes g r) h

pub fits_short : {J R : Type 0} (c : Calculus J R) (limit e n : ℕ) (t : Option (Tableau J R)) (r : R)
    → fits_in c limit e n t r ≡ true → n < limit
fits_short c limit e n None r h = absurd (both_ways false refl h)
fits_short c limit e n (Some t) r h = at_short c limit e n t.nodes r t.goals h
