-- Flags of universal variables, set one by one.
use Rattle.std.specs.Prelude.{ℕ, Bool, true, nat_lt, List, [], ◌∷◌, length, slice_set, if◌then◌else◌}
use Rattle.heap_formula.specs.declared.terms.Term.{Term}
use Rattle.heap_formula.specs.declared.terms.Term.TheVariants.{Nil, Univ, Exist}
use Rattle.heap_formula.specs.declared.atoms.Pure.{Pure}
use Rattle.heap_formula.specs.declared.atoms.Pure.TheVariants.{Eq, Neq}
use Rattle.heap_formula.specs.declared.atoms.Spatial.{Spatial}
use Rattle.heap_formula.specs.declared.atoms.Spatial.TheVariants.{Cell, Pred}
use Rattle.heap_formula.specs.declared.judgements.Judgement.{Judgement}
use Rattle.heap_formula.specs.declared.judgements.Judgement.TheVariants.{Entail, Term as Runs}
use Rattle.heap_formula.specs.Symbolic.{SymbolicHeap}

-- the flag of the variable is set, if there is one
abbrev pub marked : List Bool → Term → List Bool
marked flags Nil = flags
marked flags (Univ n) = if nat_lt n (length flags) then slice_set flags n true else flags
marked flags (Exist n) = flags

-- below those of all variables in larger parts
abbrev pub marked_terms : List Bool → List Term → List Bool
marked_terms flags [] = flags
marked_terms flags (t ∷ ts) = marked_terms (marked flags t) ts

abbrev pub marked_pure : List Bool → Pure → List Bool
marked_pure flags (Eq t u) = marked (marked flags t) u
marked_pure flags (Neq t u) = marked (marked flags t) u

abbrev pub marked_pures : List Bool → List Pure → List Bool
marked_pures flags [] = flags
marked_pures flags (x ∷ xs) = marked_pures (marked_pure flags x) xs

abbrev pub marked_spatial : List Bool → Spatial → List Bool
marked_spatial flags (Cell t ts) = marked_terms (marked flags t) ts
marked_spatial flags (Pred q ts) = marked_terms flags ts

abbrev pub marked_spatials : List Bool → List Spatial → List Bool
marked_spatials flags [] = flags
marked_spatials flags (x ∷ xs) = marked_spatials (marked_spatial flags x) xs

abbrev pub marked_heap : List Bool → SymbolicHeap → List Bool
marked_heap flags a = marked_spatials (marked_pures flags a.pure) a.spatial

abbrev pub marked_heaps : List Bool → List SymbolicHeap → List Bool
marked_heaps flags [] = flags
marked_heaps flags (a ∷ others) = marked_heaps (marked_heap flags a) others

abbrev pub marked_judgement : List Bool → Judgement → List Bool
marked_judgement flags (Entail a bs) = marked_heaps (marked_heap flags a) bs
marked_judgement flags (Runs i a) = marked_heap flags a
