-- Kept terms by number.
use Rattle.std.specs.Prelude.{ℕ, zero, suc, List, [], ◌∷◌, ◌++◌, map, nat_eq, if◌then◌else◌}
use Rattle.heap_formula.specs.declared.terms.Term.{Term}
use Rattle.heap_formula.specs.declared.terms.Term.TheVariants.{Nil}
use Rattle.heap_formula.specs.declared.atoms.Pure.{Pure}
use Rattle.heap_formula.specs.declared.atoms.Pure.TheVariants.{Eq, Neq}
use Rattle.heap_formula.specs.declared.atoms.Spatial.{Spatial}
use Rattle.pair_family.specs.BasePairs.{BasePair}
use Rattle.pair_family.specs.Classes.{term_number}
use Rattle.std.specs.List.{list_any}
use Rattle.pair_family.specs.Folding.{spoken}
use Rattle.heap_formula.specs.Fresh.{variables_from}

-- one more number, unless it is there
abbrev pub numbered : List ℕ → ℕ → List ℕ
numbered ns n = if list_any (λ c. nat_eq c n) ns then ns else ns ++ n ∷ []

abbrev pub with_numbers : List ℕ → List Term → List ℕ
with_numbers ns [] = ns
with_numbers ns (t ∷ ts) = with_numbers (numbered ns (term_number t)) ts

-- the numbers of nil, the k parameters and the terms of some atoms
abbrev pub kept_numbers : ℕ → List Spatial → List ℕ
kept_numbers k [] = map term_number (Nil ∷ variables_from 0 k)
kept_numbers k (x ∷ xs) = with_numbers (kept_numbers k xs) (spoken x)

abbrev pub sides_of : Pure → Term × Term
sides_of (Eq t u) = (t, u)
sides_of (Neq t u) = (t, u)

abbrev pub with_pure_numbers : List ℕ → List Pure → List ℕ
with_pure_numbers ns [] = ns
with_pure_numbers ns (p ∷ ps) = with_pure_numbers (numbered (numbered ns (term_number (sides_of p).0))
    (term_number (sides_of p).1)) ps

-- the first place of a number
abbrev pub place_in : ℕ → List ℕ → ℕ
place_in n [] = zero
place_in n (c ∷ cs) = if nat_eq c n then zero else suc (place_in n cs)

-- the places of nil and of some terms
abbrev pub places_in : List ℕ → List Term → List ℕ
places_in ns ts = 0 ∷ map (λ t. place_in (term_number t) ns) ts

abbrev pub count_from : ℕ → ℕ → List ℕ
count_from i zero = []
count_from i (suc n) = i ∷ count_from (suc i) n

-- a cell is a predicate of its address with one base pair: the address is a cell
abbrev pub cell_pair_alone : List BasePair
cell_pair_alone = record { same = []; differ = []; cells = 1 ∷ [] } ∷ []

-- the places of the sides of equations, and of disequations
abbrev pub equal_places : List ℕ → List Pure → List (ℕ × ℕ)
equal_places ns [] = []
equal_places ns (Eq t u ∷ ps) = (place_in (term_number t) ns, place_in (term_number u) ns) ∷ equal_places ns ps
equal_places ns (Neq t u ∷ ps) = equal_places ns ps

abbrev pub differ_places : List ℕ → List Pure → List (ℕ × ℕ)
differ_places ns [] = []
differ_places ns (Eq t u ∷ ps) = differ_places ns ps
differ_places ns (Neq t u ∷ ps) = (place_in (term_number t) ns, place_in (term_number u) ns) ∷ differ_places ns ps

-- what pure atoms say of the places of their terms
abbrev pub pure_pair_at : List ℕ → List Pure → BasePair
pure_pair_at ns ps = record { same = equal_places ns ps; differ = differ_places ns ps; cells = [] }
