-- The next goals that are premises of a node, and those after them.
use Rattle.std.specs.Prelude.{ℕ, ◌==◌, Bool, false, List, [], ◌∷◌, if◌then◌else◌}
use Rattle.derivations.specs.Tableau.{Goal}

-- whether the next goal is a premise of the node
abbrev pub begins_with : {J : Type 0} → ℕ → List (Goal J) → Bool
begins_with node [] = false
begins_with node (g ∷ goals) = g.parent == node

-- the goals from the first on that is no premise of the node
abbrev pub others_of : {J : Type 0} → ℕ → List (Goal J) → List (Goal J)
others_of node [] = []
others_of node (g ∷ goals) = if g.parent == node then others_of node goals else (g ∷ goals)
