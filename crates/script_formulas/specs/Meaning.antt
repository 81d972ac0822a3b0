-- What a script asks. Every sort is the numbers, with a nil of its own, 0; an equation stands between terms of one
-- sort. The predicates mean the least that their definitions say, by stages.
use Rattle.std.specs.Prelude.{◌≡◌, ℕ, zero, suc, List, [], ◌∷◌, ◌++◌, map, ◌⊎◌, slice_index}
use Rattle.heap_formula.specs.Values.{Stack, value, values}
use Rattle.heap_formula.specs.Meaning.{PureHolds}
use Rattle.heap_formula.specs.Words.{Each}
use Rattle.script_formulas.specs.declared.formula.ScriptAtom.{ScriptAtom}
use Rattle.script_formulas.specs.declared.formula.ScriptAtom.TheVariants.{Cell, Call}
use Rattle.script_formulas.specs.declared.script.Script.{Script}
use Rattle.script_formulas.specs.Formulas.{Formula, True, False, Empty, Says, Atom, Not, And, Or, Sep, Exists}
use Rattle.script_formulas.specs.Formulas.{formula_of}
use Rattle.script_formulas.specs.Heaps.{SortedCells, no_sorted_cells, IsSortedCell, SortedStar}

-- what each predicate holds of: values of its parameters, and a heap
abbrev pub SortedFamily : Type 1
SortedFamily = ℕ → List ℕ → SortedCells → Type 0

-- an atom holds where the predicates mean P, and the sort of the locations of each constructor is in a list
abbrev pub SortedAtomHolds : List ℕ → SortedFamily → Stack → Stack → ScriptAtom → SortedCells → Type 0
SortedAtomHolds locations P s e (Cell t c ts) h = IsSortedCell (slice_index locations c) (value s e t)
    (c ∷ values s e ts) h
SortedAtomHolds locations P s e (Call p ts) h = P p (values s e ts) h

-- a formula holds of values of the constants or parameters, values of the quantified variables that it stands below,
-- and a heap
abbrev pub FormulaHolds : List ℕ → SortedFamily → Stack → Stack → Formula → SortedCells → Type 0
FormulaHolds locations P s e True h = Unit {0}
FormulaHolds locations P s e False h = ⊥
FormulaHolds locations P s e Empty h = h ≡ no_sorted_cells
FormulaHolds locations P s e (Says p) h = PureHolds s e p
FormulaHolds locations P s e (Atom a) h = SortedAtomHolds locations P s e a h
FormulaHolds locations P s e (Not f) h = FormulaHolds locations P s e f h → ⊥
FormulaHolds locations P s e (And f g) h = FormulaHolds locations P s e f h × FormulaHolds locations P s e g h
FormulaHolds locations P s e (Or f g) h = FormulaHolds locations P s e f h ⊎ FormulaHolds locations P s e g h
FormulaHolds locations P s e (Sep f g) h = SortedStar (FormulaHolds locations P s e f) (FormulaHolds locations P s e g)
    h
FormulaHolds locations P s e (Exists sort f) h = (v : ℕ) × FormulaHolds locations P s (e ++ v ∷ []) f h

-- the body of a predicate; where there is none, it holds of nothing
abbrev pub body_of : List Formula → ℕ → Formula
body_of [] p = False
body_of (f ∷ fs) zero = f
body_of (f ∷ fs) (suc p) = body_of fs p

-- at stage 0 a predicate holds of nothing; at stage n + 1 where its body does with the predicates at stage n
abbrev pub sorted_stage : List ℕ → List Formula → ℕ → SortedFamily
sorted_stage locations bodies zero p vs h = ⊥
sorted_stage locations bodies (suc n) p vs h = FormulaHolds locations (sorted_stage locations bodies n) vs []
    (body_of bodies p) h

-- a predicate holds where it holds at some stage
abbrev pub sorted_least : List ℕ → List Formula → SortedFamily
sorted_least locations bodies p vs h = (n : ℕ) × sorted_stage locations bodies n p vs h

-- the sorts of the locations of the constructors
abbrev pub locations_of : Script → List ℕ
locations_of script = map (λ c. c.location) script.constructors.items

abbrev pub bodies_of : Script → List Formula
bodies_of script = map (λ p. formula_of p.body) script.predicates.items

-- a formula of an assert holds of values of the constants and a heap
abbrev pub AssertHolds : Script → Stack → SortedCells → Formula → Type 0
AssertHolds script s h f = FormulaHolds (locations_of script) (sorted_least (locations_of script) (bodies_of script)) s
    [] f h

-- all that is asserted holds, and nothing that is denied
abbrev pub IsModel : Script → Stack → SortedCells → Type 0
IsModel script s h =
    Each (λ f. AssertHolds script s h (formula_of f)) script.asserted.items
    × Each (λ f. AssertHolds script s h (formula_of f) → ⊥) script.denied.items

abbrev pub IsSatisfiable : Script → Type 0
IsSatisfiable script = (s : Stack) × (h : SortedCells) × IsModel script s h
