-- Definitions, formulas and programs of the small facts.
use Rattle.std.specs.Prelude.{◌≡◌, ℕ, List, [], ◌∷◌}
use Rattle.heap_formula.specs.declared.terms.Term.TheVariants.{Nil, Univ, Exist}
use Rattle.heap_formula.specs.declared.atoms.Pure.TheVariants.{Eq, Neq}
use Rattle.heap_formula.specs.declared.atoms.Spatial.{Spatial}
use Rattle.heap_formula.specs.declared.atoms.Spatial.TheVariants.{Cell, Pred}
use Rattle.heap_formula.specs.declared.commands.Command.{Command}
use Rattle.heap_formula.specs.declared.commands.Command.TheVariants.{New, Goto, Stop}
use Rattle.heap_formula.specs.Symbolic.{SymbolicHeap}
use Rattle.heap_formula.specs.Definitions.{Definition}
use Rattle.heap_formula.specs.Words.{Each, OneOf}
use Rattle.heap_formula.specs.Meaning.{cases_of}

-- ls(a, b) with the cases a = b : emp and a != b : a -> (c) * ls(c, b)
abbrev pub acyclic_segments : List Definition
acyclic_segments = record {
  name = [];
  arity = 2;
  cases = record { pure = Eq (Univ 0) (Univ 1) ∷ []; spatial = [] }
      ∷ record {
        pure = Neq (Univ 0) (Univ 1) ∷ [];
        spatial = Cell (Univ 0) (Exist 0 ∷ [])
            ∷ Pred 0 (Exist 0 ∷ Univ 1 ∷ []) ∷ [];
      } ∷ [];
} ∷ []

-- ls(x, y) * ls(y, z)
abbrev pub two_segments : SymbolicHeap
two_segments = record { pure = []; spatial = Pred 0 (Univ 0 ∷ Univ 1 ∷ []) ∷ Pred 0 (Univ 1 ∷ Univ 2 ∷ []) ∷ [] }

-- ls(x, z)
abbrev pub one_segment : SymbolicHeap
one_segment = record { pure = []; spatial = Pred 0 (Univ 0 ∷ Univ 2 ∷ []) ∷ [] }

-- p(a) with the cases a = nil : emp and a -> (b) * p(c)
abbrev pub two_locals : List Definition
two_locals = record {
  name = [];
  arity = 1;
  cases = record { pure = Eq (Univ 0) Nil ∷ []; spatial = [] }
      ∷ record { pure = []; spatial = Cell (Univ 0) (Exist 0 ∷ []) ∷ Pred 0 (Exist 1 ∷ []) ∷ [] } ∷ [];
} ∷ []

-- p(x) * p(y)
abbrev pub two_of_them : SymbolicHeap
two_of_them = record { pure = []; spatial = Pred 0 (Univ 0 ∷ []) ∷ Pred 0 (Univ 1 ∷ []) ∷ [] }

-- an atom of predicate p
abbrev pub IsUse : ℕ → Spatial → Type 0
IsUse p (Cell t ts) = ⊥
IsUse p (Pred q ts) = p ≡ q

-- every case of predicate p has an atom of p
abbrev pub UsesItself : List Definition → ℕ → Type 0
UsesItself ds p = Each (λ case. OneOf (IsUse p) case.spatial) (cases_of ds p)

-- 1: x := new 1; 2: goto 1
abbrev pub allocating : List Command
allocating = New 0 1 ∷ Goto 1 ∷ []

-- 1: stop
abbrev pub stopping : List Command
stopping = Stop ∷ []
