-- How terms become known, a step at a time.
use Rattle.std.specs.Prelude.{◌≡◌, ℕ, suc, List, [], ◌∷◌, ◌++◌, ◌⊎◌}
use Rattle.heap_formula.specs.declared.terms.Term.{Term}
use Rattle.heap_formula.specs.declared.terms.Term.TheVariants.{Nil, Univ, Exist}
use Rattle.heap_formula.specs.declared.atoms.Pure.{Pure}
use Rattle.heap_formula.specs.declared.atoms.Pure.TheVariants.{Eq, Neq}
use Rattle.heap_formula.specs.declared.atoms.Spatial.{Spatial}
use Rattle.heap_formula.specs.declared.atoms.Spatial.TheVariants.{Cell, Pred}
use Rattle.heap_formula.specs.Symbolic.{SymbolicHeap}
use Rattle.heap_formula.specs.Words.{Each}
use Rattle.heap_formula.specs.Closedness.{IsUniversal}
use Rattle.model_check.specs.declared.known.ValueStep.{ValueStep}
use Rattle.model_check.specs.declared.known.ValueStep.TheVariants.{Same, Field}
use Rattle.cyc_basics.specs.Words.{IsMember}

abbrev pub source : ValueStep → Term
source (Same t u) = t
source (Field t k u) = t

abbrev pub target : ValueStep → Term
target (Same t u) = u
target (Field t k u) = u

-- nil, a universal, or one of these
abbrev pub IsKnownIn : List Term → Term → Type 0
IsKnownIn ks Nil = Unit {0}
IsKnownIn ks (Univ n) = Unit {0}
IsKnownIn ks (Exist n) = IsMember (Exist n) ks

-- what steps lead to from nil and the universals
pub data Learned (steps : List ValueStep) : Term → Type 0 where
  start : (t : Term) → IsUniversal t → Learned steps t
  taken : (step : ValueStep) → IsMember step steps → Learned steps (source step) → Learned steps (target step)

abbrev pub AreLearned : List ValueStep → List Term → Type 0
AreLearned steps ks = Each (Learned steps) ks

abbrev pub IsTaken : List Term → ValueStep → Type 0
IsTaken ks step = IsKnownIn ks (source step) → IsKnownIn ks (target step)

abbrev pub AllTaken : List Term → List ValueStep → Type 0
AllTaken ks steps = Each (IsTaken ks) steps

-- a known term makes another known: nothing is new, or the other term is, which was not known
abbrev pub Learns : List Term → List Term → Term → Term → Type 0
Learns old new t u = ((new ≡ old) × (IsKnownIn old t → IsKnownIn old u))
    ⊎ ((new ≡ old ++ u ∷ []) × (IsKnownIn old t × (¬ IsKnownIn old u)))

abbrev pub pure_steps : Pure → List ValueStep
pure_steps (Eq t u) = Same t u ∷ Same u t ∷ []
pure_steps (Neq t u) = []

abbrev pub pures_steps : List Pure → List ValueStep
pures_steps [] = []
pures_steps (x ∷ xs) = pure_steps x ++ pures_steps xs

abbrev pub field_steps : Term → ℕ → List Term → List ValueStep
field_steps t k [] = []
field_steps t k (u ∷ us) = Field t k u ∷ field_steps t (suc k) us

abbrev pub spatial_steps : Spatial → List ValueStep
spatial_steps (Cell t ts) = field_steps t 0 ts
spatial_steps (Pred p ts) = []

abbrev pub spatials_steps : List Spatial → List ValueStep
spatials_steps [] = []
spatials_steps (x ∷ xs) = spatial_steps x ++ spatials_steps xs

abbrev pub steps_of : SymbolicHeap → List ValueStep
steps_of a = pures_steps a.pure ++ spatials_steps a.spatial
