-- Derivations that a heap satisfies a formula.
use Rattle.std.specs.Prelude.{◌≡◌, ℕ, ◌<◌, List, [], ◌∷◌, ◌++◌, length, Some, slice_get}
use Rattle.heap_formula.specs.declared.atoms.Spatial.{Spatial}
use Rattle.heap_formula.specs.declared.atoms.Spatial.TheVariants.{Cell, Pred}
use Rattle.heap_formula.specs.Symbolic.{SymbolicHeap}
use Rattle.heap_formula.specs.Definitions.{Definition}
use Rattle.heap_formula.specs.Words.{Each}
use Rattle.heap_formula.specs.Values.{Stack, value, values}
use Rattle.heap_formula.specs.Cells.{Cells, no_cells, one_cell, IsUnion}
use Rattle.heap_formula.specs.Meaning.{PureHolds, cases_of}
use Rattle.model_check.specs.Questions.{Question}
use Rattle.general_models.specs.declared.derivations.steps.CaseStep.{CaseStep}

-- the heap is one cell, and apart from it this rest
abbrev pub Leaves : ℕ → List ℕ → Cells → Cells → Type 0
Leaves a vs h rest = (0 < a) × (0 < length vs) × IsUnion (one_cell a vs) rest h

-- the same for the cell that an atom names; a predicate atom takes nothing
abbrev pub AtomLeaves : Stack → Stack → Spatial → Cells → Cells → Type 0
AtomLeaves s e (Cell t ts) h rest = Leaves (value s e t) (values s e ts) h rest
AtomLeaves s e (Pred p ts) h rest = rest ≡ h

-- the same for the cells of a list of atoms
abbrev pub AtomsLeave : Stack → Stack → List Spatial → Cells → Cells → Type 0
AtomsLeave s e [] h rest = rest ≡ h
AtomsLeave s e (x ∷ xs) h rest = (g : Cells) × AtomLeaves s e x h g × AtomsLeave s e xs g rest

-- the predicate atoms with the values of their arguments
abbrev pub atom_of : Stack → Stack → Spatial → List Question
atom_of s e (Cell t ts) = []
atom_of s e (Pred p ts) = record { predicate = p; values = values s e ts } ∷ []

abbrev pub atoms_of : Stack → Stack → List Spatial → List Question
atoms_of s e [] = []
atoms_of s e (x ∷ xs) = atom_of s e x ++ atoms_of s e xs

-- the pure atoms hold, and the heap is the formula's cells and this rest
abbrev pub Opens : Stack → Stack → SymbolicHeap → Cells → Cells → Type 0
Opens s e a h rest = Each (PureHolds s e) a.pure × AtomsLeave s e a.spatial h rest

-- each step takes the first atom that is pending, which has a case of this number: its pure atoms hold with the values
-- of the atom and of the locals, its cells are taken, and its predicate atoms come first from then on; at the end no
-- atom is pending and no cell is left
abbrev pub Derives : List Definition → List CaseStep → List Question → Cells → Type 0
Derives ds [] atoms h = (atoms ≡ []) × (h ≡ no_cells)
Derives ds (x ∷ xs) [] h = ⊥
Derives ds (x ∷ xs) (q ∷ qs) h =
    (b : SymbolicHeap) × (rest : Cells) × (slice_get (cases_of ds q.predicate) x.case ≡ Some b)
    × Opens q.values x.locals b h rest × Derives ds xs (atoms_of q.values x.locals b.spatial ++ qs) rest

-- the steps derive the predicate atoms of the formula on what its cells leave; its existential variables are 0
abbrev pub IsDerivation : List Definition → Stack → Cells → SymbolicHeap → List CaseStep → Type 0
IsDerivation ds s h a steps =
    (rest : Cells) × Opens s [] a h rest × Derives ds steps (atoms_of s [] a.spatial) rest
