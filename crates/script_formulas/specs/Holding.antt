-- What a case means.
use Rattle.std.specs.Prelude.{◌≡◌, ◌↔◌, ℕ, Bool, true, false, List, [], ◌∷◌, ◌++◌, length}
use Rattle.heap_formula.specs.Values.{Stack}
use Rattle.heap_formula.specs.Meaning.{PureHolds}
use Rattle.heap_formula.specs.Words.{Each, OneOf}
use Rattle.script_formulas.specs.declared.formula.ScriptAtom.{ScriptAtom}
use Rattle.script_formulas.specs.Formulas.{Formula}
use Rattle.script_formulas.specs.Heaps.{SortedCells, no_sorted_cells, SortedStar}
use Rattle.script_formulas.specs.Meaning.{SortedFamily, SortedAtomHolds, FormulaHolds, sorted_least, sorted_stage}
use Rattle.script_formulas.specs.Cases.{SymbolicCase}

-- the heap splits into one part for each atom
abbrev pub SeparateAtomsHold : List ℕ → SortedFamily → Stack → Stack → List ScriptAtom → SortedCells → Type 0
SeparateAtomsHold locations P s e [] h = h ≡ no_sorted_cells
SeparateAtomsHold locations P s e (a ∷ xs) h = SortedStar (SortedAtomHolds locations P s e a)
    (SeparateAtomsHold locations P s e xs) h

-- so it does, unless nothing is said of it
abbrev pub AtomsHold : Bool → List ℕ → SortedFamily → Stack → Stack → List ScriptAtom → SortedCells → Type 0
AtomsHold true locations P s e xs h = Unit {0}
AtomsHold false locations P s e xs h = SeparateAtomsHold locations P s e xs h

-- a case holds where the variables of the quantifiers around it have the values e, for some values of its own
abbrev pub CaseHolds : List ℕ → SortedFamily → Stack → Stack → SymbolicCase → SortedCells → Type 0
CaseHolds locations P s e c h =
    (own : List ℕ) × (length own ≡ c.quantified) × Each (PureHolds s (e ++ own)) c.pure
    × AtomsHold c.any_heap locations P s (e ++ own) c.atoms h

abbrev pub OneCaseHolds : List ℕ → SortedFamily → Stack → Stack → List SymbolicCase → SortedCells → Type 0
OneCaseHolds locations P s e cs h = OneOf (λ c. CaseHolds locations P s e c h) cs

-- the formula holds where one of the cases does, whatever the definitions and the sorts of the constructors are
abbrev pub IsDisjunctiveForm : Formula → List SymbolicCase → Type 0
IsDisjunctiveForm f cs =
    (locations : List ℕ) (bodies : List Formula) (s : Stack) (h : SortedCells)
    → FormulaHolds locations (sorted_least locations bodies) s [] f h
    ↔ OneCaseHolds locations (sorted_least locations bodies) s [] cs h

-- the same at each stage of the predicates
abbrev pub IsStagedForm : Formula → List SymbolicCase → Type 0
IsStagedForm f cs =
    (locations : List ℕ) (bodies : List Formula) (n : ℕ) (s : Stack) (h : SortedCells)
    → FormulaHolds locations (sorted_stage locations bodies n) s [] f h
    ↔ OneCaseHolds locations (sorted_stage locations bodies n) s [] cs h
