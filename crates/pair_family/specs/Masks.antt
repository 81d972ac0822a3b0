-- Pairs of small numbers as the ones of a mask.
use Rattle.std.specs.Prelude.{ℕ, suc, List, [], ◌∷◌, ◌++◌, if◌then◌else◌}
use Rattle.cyc_basics.specs.Bits.{is_one}
use Rattle.pair_family.specs.Combination.{pairs_below}

-- the entries whose bits, from bit k on, are ones
abbrev pub picked : {X : Type 0} → ℕ → ℕ → List X → List X
picked k mask [] = []
picked k mask (x ∷ xs) = (if is_one mask k then x ∷ [] else []) ++ picked (suc k) mask xs

-- the pairs of numbers below 11 whose bits are ones; there are 55
unfoldable pub pairs_in : ℕ → List (ℕ × ℕ)
pairs_in mask = picked 0 mask (pairs_below 11)
