-- The model file of a stack and a heap for a problem's antecedent.
use Rattle.std.specs.Prelude.{◌≡◌, Option, Some, None}
use Rattle.heap_formula.specs.Symbolic.{SymbolicHeap}
use Rattle.heap_formula.specs.Values.{Stack}
use Rattle.heap_formula.specs.Cells.{Cells}
use Rattle.formula_reader.specs.declared.problem.Problem.{Problem}
use Rattle.model_file.specs.declared.file.Model.{Model}
use Rattle.model_file.specs.Versions.{version_for}

-- the file has the version for the problem's, the problem's definitions, this stack and heap, and asks for this formula
pub record IsFileFor (problem : Problem) (a : SymbolicHeap) (s : Stack) (h : Cells) (m : Model) : Type 0 where
  pub version : m.version ≡ version_for problem.version
  pub definitions : m.defs.list ≡ problem.defs.list
  pub stack : m.stack ≡ s
  pub heap : m.heap ≡ h
  pub ask : m.ask ≡ a

-- such a file, or none
abbrev pub IsModelFor : Problem → SymbolicHeap → Stack → Cells → Option Model → Type 0
IsModelFor problem a s h (Some m) = IsFileFor problem a s h m
IsModelFor problem a s h None = Unit {0}
