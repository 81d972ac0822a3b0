-- The heaps found so far of which predicates may hold, and when all are found.
use Rattle.std.specs.Prelude.{◌≡◌, ◌<◌, ◌+◌, ℕ, List, [], ◌++◌, Bool, true, false, Option, Some, None, length}
use Rattle.std.specs.Prelude.{slice_get}
use Rattle.std.specs.List.{sum_by}
use Rattle.heap_formula.specs.Symbolic.{SymbolicHeap}
use Rattle.heap_formula.specs.Definitions.{Definition}
use Rattle.heap_formula.specs.Fresh.{heap_exists}
use Rattle.heap_formula.specs.Words.{OneOf}
use Rattle.heap_formula.specs.Values.{Stack}
use Rattle.heap_formula.specs.Cells.{Cells, Star}
use Rattle.heap_formula.specs.Meaning.{Family, Holds, cases_of, AtomHolds}
use Rattle.model_check.specs.Questions.{Question}
use Rattle.model_check.specs.Grounding.{IsQuestion}
use Rattle.counter_model.specs.Bounds.{AreAtMost, IsAmong}
use Rattle.heap_formula.specs.declared.atoms.Spatial.{Spatial}

-- questions in order, and for each the heaps found so far of which it holds
pub record Findings : Type 0 where
  pub questions : List Question
  pub found : List (List Cells)

abbrev pub heaps_in : Option (List Cells) → List Cells
heaps_in None = []
heaps_in (Some hs) = hs

-- up to the address n the heap is among those found for question q
abbrev pub IsFound : ℕ → Findings → ℕ → Cells → Type 0
IsFound n t q h = IsAmong n (heaps_in (slice_get t.found q)) h

-- a meaning of the predicates: where it is asked whether the predicate holds of the values, the heap is among those
-- found
abbrev pub found_if_asked : ℕ → Findings → Family
found_if_asked n t p vs h = (q : ℕ) → IsQuestion t.questions q p vs → IsFound n t q h

-- the case holds for values of its locals from 0 to n, where the predicates have this meaning
pub record FitsCase (n : ℕ) (P : Family) (vs : List ℕ) (h : Cells) (b : SymbolicHeap) : Type 0 where
  pub locals : Stack
  pub long : length locals ≡ heap_exists b
  pub small : AreAtMost n locals
  pub holds : Holds (λ _. P) vs locals b h

-- the same, where the first locals have these values and so many come after them
pub record FitsBehind (n : ℕ) (P : Family) (vs : List ℕ) (h : Cells) (b : SymbolicHeap) (made : Stack) (left : ℕ)
    : Type 0 where
  pub behind : Stack
  pub long : length behind ≡ left
  pub small : AreAtMost n behind
  pub holds : Holds (λ _. P) vs (made ++ behind) b h

-- where one of the cases holds by what is found, the heap is found for question q
abbrev pub TakesCases : ℕ → Findings → ℕ → List ℕ → List SymbolicHeap → Type 0
TakesCases n t q vs bs = (h : Cells) → OneOf (FitsCase n (found_if_asked n t) vs h) bs → IsFound n t q h

-- the same of the cases of the predicate that the question asks
abbrev pub IsSettled : List Definition → ℕ → Findings → ℕ → Type 0
IsSettled ds n t q = (p : ℕ) (vs : List ℕ) → IsQuestion t.questions q p vs → TakesCases n t q vs (cases_of ds p)

-- the heaps have each union of one of the parts with one of which the atom holds by what is found
abbrev pub TakesAtom : ℕ → Findings → Stack → Stack → List Cells → Spatial → List Cells → Type 0
TakesAtom n t s e parts x heaps =
    (h : Cells) → Star (IsAmong n parts) (AtomHolds (found_if_asked n t) s e x) h
    → IsAmong n heaps h

-- how many questions are asked and heaps found
abbrev pub size : Findings → ℕ
size t = length t.questions + sum_by length t.found

-- a step that found nothing has left all as it was, and P holds; any other has added something
pub record UnlessGrown (grown : Bool) (old new : Findings) (P : Type 0) : Type 0 where
  pub settled : grown ≡ false → (new ≡ old) × P
  pub larger : grown ≡ true → size old < size new

-- up to the address n the heap is found for question q now, and was not before
pub record IsNewlyFound (n : ℕ) (old new : Findings) (q : ℕ) (h : Cells) : Type 0 where
  pub before : IsFound n old q h → ⊥
  pub after : IsFound n new q h
