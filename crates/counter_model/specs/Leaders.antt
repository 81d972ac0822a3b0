-- The first stack of those that were looked at so far.
use Rattle.std.specs.Prelude.{◌≢◌, ℕ, List, Option, Some, None}
use Rattle.std.specs.declared.cmp.Ordering.TheVariants.{Greater}
use Rattle.std.specs.Ordering.{nat_cmp}
use Rattle.std.specs.Cmp.Lexicographic.{slice_cmp}
use Rattle.heap_formula.specs.Symbolic.{SymbolicHeap}
use Rattle.heap_formula.specs.Definitions.{Definition}
use Rattle.heap_formula.specs.Values.{Stack}
use Rattle.heap_formula.specs.Cells.{Cells}
use Rattle.counter_model.specs.Bounds.{IsWithin}
use Rattle.counter_model.specs.declared.first_stacks.CounterModel.{CounterModel}
use Rattle.counter_model.specs.FirstCounter.{IsCounter}
use Rattle.counter_model.specs.Leading.{IsFirstHeap}
use Rattle.counter_model.specs.Tightness.{Breaks, IsStack}

-- a stack that is given has so many entries, and its heap is the first with which it is a counter-model
abbrev pub IsPairFor : ℕ → ℕ → List Definition → SymbolicHeap → List SymbolicHeap → Option CounterModel → Type 0
IsPairFor n long ds a bs None = Unit {0}
IsPairFor n long ds a bs (Some m) = IsStack n long m.stack × IsFirstHeap n ds a bs m.stack (Some m.heap)

-- a stack is given, and it does not come after t
abbrev pub IsStackLed : Option CounterModel → Stack → Type 0
IsStackLed None t = ⊥
IsStackLed (Some m) t = slice_cmp nat_cmp m.stack t ≢ Greater

-- the first of the stacks that name values in ascending order and have a counter-model of bounded size
pub record IsLeader (n long : ℕ) (ds : List Definition) (a : SymbolicHeap) (bs : List SymbolicHeap)
    (o : Option CounterModel) : Type 0 where
  pub pair : IsPairFor n long ds a bs o
  pub first : (t : Stack) (g : Cells) → IsStack n long t → (¬ Breaks 0 t) → IsWithin n g → IsCounter ds a bs t g
      → IsStackLed o t
