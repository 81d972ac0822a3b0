-- Positions in lists of atoms, and trace pairs between them.
use Rattle.std.specs.Prelude.{ℕ, suc, List, [], ◌∷◌, false, true}
use Rattle.heap_formula.specs.declared.judgements.Pair.{Pair}
use Rattle.heap_formula.specs.Positions.{without, before}
use Rattle.fo_formula.specs.declared.atoms.FoAtom.{FoAtom}
use Rattle.fo_formula.specs.declared.atoms.FoAtom.TheVariants.{Equation, Predicate}

-- each predicate atom of xs, from place n on, is paired with the place where it stood
abbrev pub pairs_from : (ℕ → ℕ) → ℕ → List FoAtom → List Pair
pairs_from old n [] = []
pairs_from old n (Equation l r ∷ xs) = pairs_from old (suc n) xs
pairs_from old n (Predicate p ts ∷ xs) = record { old = old n; new = n; progress = false } ∷ pairs_from old (suc n) xs

-- every predicate atom is paired with itself
abbrev pub same_pairs : List FoAtom → List Pair
same_pairs xs = pairs_from (λ k. k) 0 xs

-- every predicate atom but the one at place i, which is removed
abbrev pub kept_pairs : ℕ → List FoAtom → List Pair
kept_pairs i xs = pairs_from (before i) 0 (without i xs)

-- each predicate atom of xs, from place n on, is a child of the one at place k: the trace progresses
abbrev pub child_pairs : ℕ → ℕ → List FoAtom → List Pair
child_pairs k n [] = []
child_pairs k n (Equation l r ∷ xs) = child_pairs k (suc n) xs
child_pairs k n (Predicate p ts ∷ xs) = record { old = k; new = n; progress = true } ∷ child_pairs k (suc n) xs
