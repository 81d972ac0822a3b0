-- The first place that is not constructive.
use Rattle.std.specs.Prelude.{ℕ, zero, suc, List, [], ◌∷◌, Option, Some, None}
use Rattle.heap_formula.specs.Symbolic.{SymbolicHeap}
use Rattle.heap_formula.specs.Definitions.{Definition}
use Rattle.heap_formula.specs.Words.{Each}
use Rattle.model_check.specs.declared.places.Place.{Place}
use Rattle.model_check.specs.declared.places.Place.TheVariants.{Case, Ask}
use Rattle.model_check.specs.Constructive.{IsConstructive, AreConstructive}

-- the formula at this place is not constructive, and those before it are
abbrev pub IsFirstBad : List SymbolicHeap → ℕ → Type 0
IsFirstBad [] i = ⊥
IsFirstBad (x ∷ xs) zero = ¬ IsConstructive x
IsFirstBad (x ∷ xs) (suc i) = IsConstructive x × IsFirstBad xs i

-- case c of definition p is not constructive, and the cases before it are
abbrev pub IsFirstBadCase : List Definition → ℕ → ℕ → Type 0
IsFirstBadCase [] p c = ⊥
IsFirstBadCase (d ∷ ds) zero c = IsFirstBad d.cases c
IsFirstBadCase (d ∷ ds) (suc p) c = Each IsConstructive d.cases × IsFirstBadCase ds p c

-- the first place that is not constructive: a case of the definitions, or, where all cases are constructive, one of the
-- formulas
abbrev pub IsPlace : List Definition → List SymbolicHeap → Place → Type 0
IsPlace ds asks (Case p c) = IsFirstBadCase ds p c
IsPlace ds asks (Ask d) = AreConstructive ds × IsFirstBad asks d

abbrev pub IsFirstPlace : List Definition → List SymbolicHeap → Option Place → Type 0
IsFirstPlace ds asks None = AreConstructive ds × Each IsConstructive asks
IsFirstPlace ds asks (Some place) = IsPlace ds asks place
