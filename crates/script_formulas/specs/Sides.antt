-- Both sides of a script's question.
use Rattle.std.specs.Prelude.{◌≡◌, ◌↔◌, ℕ, List, [], map, false}
use Rattle.heap_formula.specs.declared.atoms.Pure.{Pure}
use Rattle.heap_formula.specs.Values.{Stack}
use Rattle.heap_formula.specs.Words.{Each}
use Rattle.script_formulas.specs.Formulas.{Formula}
use Rattle.script_formulas.specs.Heaps.{SortedCells}
use Rattle.script_formulas.specs.Meaning.{FormulaHolds, sorted_least}
use Rattle.script_formulas.specs.Cases.{SymbolicCase, pure_case}
use Rattle.script_formulas.specs.Forms.{signed}
use Rattle.script_formulas.specs.Holding.{CaseHolds, OneCaseHolds}
use Rattle.script_formulas.specs.Scope.{AreFine}

-- what a formula of an assert says of values and a heap, over any definitions
abbrev pub Says : List ℕ → List Formula → Stack → SortedCells → Formula → Type 0
Says locations bodies s h f = FormulaHolds locations (sorted_least locations bodies) s [] f h

abbrev pub SaysCase : List ℕ → List Formula → Stack → SortedCells → SymbolicCase → Type 0
SaysCase locations bodies s h c = CaseHolds locations (sorted_least locations bodies) s [] c h

abbrev pub SaysOne : List ℕ → List Formula → Stack → SortedCells → List SymbolicCase → Type 0
SaysOne locations bodies s h cs = OneCaseHolds locations (sorted_least locations bodies) s [] cs h

-- one of the first cases holds, and none of the others
abbrev pub SaysSides : List ℕ → List Formula → Stack → SortedCells → List SymbolicCase → List SymbolicCase → Type 0
SaysSides locations bodies s h first second = SaysOne locations bodies s h first
    × (SaysOne locations bodies s h second → ⊥)

-- all that is asserted holds, and nothing that is denied, exactly where one of the first cases does and none of the
-- others
abbrev pub AreSides : List Formula → List Formula → List SymbolicCase → List SymbolicCase → Type 0
AreSides asserted denied first second =
    (locations : List ℕ) (bodies : List Formula) (s : Stack) (h : SortedCells)
    → (Each (Says locations bodies s h) asserted × Each (λ f. Says locations bodies s h f → ⊥) denied)
    ↔ SaysSides locations bodies s h first second

-- the new sides say what the old ones do, and that none of these cases holds
abbrev pub AreWithout : List SymbolicCase → List SymbolicCase → List SymbolicCase → List SymbolicCase
    → List SymbolicCase → Type 0
AreWithout cs first second new_first new_second =
    (locations : List ℕ) (bodies : List Formula) (s : Stack) (h : SortedCells)
    → (SaysSides locations bodies s h first second × (SaysOne locations bodies s h cs → ⊥))
    ↔ SaysSides locations bodies s h new_first new_second

-- the negation of each atom as a case
abbrev pub negations : List Pure → List SymbolicCase
negations ps = map (λ p. pure_case (signed false p)) ps

-- each case says something of the heap
abbrev pub ClosedCases : List SymbolicCase → Type 0
ClosedCases cs = Each (λ c. c.any_heap ≡ false) cs

-- so do those of what is denied, and each of their variables is bound
abbrev pub AreDenied : List SymbolicCase → Type 0
AreDenied cs = AreFine 0 cs × ClosedCases cs
