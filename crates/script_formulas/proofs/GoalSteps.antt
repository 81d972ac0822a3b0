-- Where all cases speak of the heap, and where there is one.
use Rattle.std.proofs.Common.{◌≡◌, ◌≢◌, ℕ, Bool, true, false, ◌||◌, List, [], ◌∷◌, length, refl, ap}
use Rattle.std.specs.Prelude.{Result, Ok, Err, IfOk}
use Rattle.std.specs.List.{list_any}
use Rattle.heap_formula.specs.Symbolic.{SymbolicHeap}
use Rattle.script_formulas.specs.declared.goals.heaps.Free.{Free}
use Rattle.script_formulas.specs.declared.goals.heaps.Numbers.{Numbers}
use Rattle.script_formulas.specs.declared.goals.heaps.Variables.{Variables}
use Rattle.script_formulas.specs.Translating.{IsHeapOf, IsCaseOf, AreHeapsOf, AreLocal, ArePlaced, AreDisjuncts}
use Rattle.script_formulas.specs.Cases.{SymbolicCase}
use Rattle.script_formulas.specs.Sides.{ClosedCases}

neither : (a b : Bool) → (a || b) ≡ false → (a ≡ false) × (b ≡ false)
neither true b e = absurd cc
neither false b e = (refl, e)

pub closed_all : (cs : List SymbolicCase) → list_any (λ c. c.any_heap) cs ≡ false → ClosedCases cs
closed_all [] e = tt
closed_all (c ∷ cs) e =
    let both = neither c.any_heap (list_any (λ c. c.any_heap) cs) e in
    (both.0, closed_all cs both.1)

pub some_there : (cs : List SymbolicCase) → length cs ≢ 0 → cs ≢ []
some_there cs some none = some (ap length none)

-- a heap whose quantified variables stay ones is one of its case
pub case_of : {E : Type 0} (numbers : Numbers) (v : Variables) (c : SymbolicCase) (answer : Result SymbolicHeap E)
    → AreLocal v.quantified → IfOk answer (λ h. IsHeapOf numbers v c h) → IfOk answer (λ h. IsCaseOf numbers v.free c h)
case_of numbers v c (Ok h) local heap = (v, refl, local, heap)
case_of numbers v c (Err e) local heap = tt

-- heaps of cases are disjuncts for them, where there are some
pub disjuncts_of : (numbers : Numbers) (free : Free) (constants : ℕ) (order : List ℕ) (cs : List SymbolicCase)
    (hs : List SymbolicHeap) → length cs ≢ 0 → ArePlaced free constants order → AreHeapsOf numbers free cs hs
    → AreDisjuncts numbers constants order cs hs
disjuncts_of numbers free constants order [] hs some placed heaps = absurd (some refl)
disjuncts_of numbers free constants order (c ∷ cs) hs some placed heaps = (free, placed, heaps)
