-- The atoms that a list of places names, and their trace pairs, place by place.
use Rattle.std.specs.Prelude.{ℕ, suc, List, [], ◌∷◌, Bool, true, false, if◌then◌else◌}
use Rattle.heap_formula.specs.declared.atoms.Spatial.{Spatial}
use Rattle.heap_formula.specs.declared.atoms.Spatial.TheVariants.{Cell, Pred}
use Rattle.heap_formula.specs.declared.judgements.Pair.{Pair}
use Rattle.heap_formula.specs.Positions.{chosen_step, others_of}
use Rattle.rule_table.specs.Tests.{has_number}

-- the list begins at place i
abbrev pub chosen_from : {X : Type 0} → (ℕ → Bool) → ℕ → List X → List X
chosen_from p i [] = []
chosen_from p i (x ∷ xs) = chosen_step (p i) x (chosen_from p (suc i) xs)

-- the list begins at place i, and n atoms were chosen before it
abbrev pub chosen_pairs : (ℕ → Bool) → ℕ → ℕ → List Spatial → List Pair
chosen_pairs p i n [] = []
chosen_pairs p i n (Cell t ts ∷ xs) = if p i then chosen_pairs p (suc i) (suc n) xs else chosen_pairs p (suc i) n xs
chosen_pairs p i n (Pred q ts ∷ xs) =
    if p i then record { old = i; new = n; progress = false }
    ∷ chosen_pairs p (suc i) (suc n) xs else chosen_pairs p (suc i) n xs

-- the places of the list, or the others
abbrev pub taken : Bool → List ℕ → ℕ → Bool
taken true places = others_of (has_number places)
taken false places = has_number places
