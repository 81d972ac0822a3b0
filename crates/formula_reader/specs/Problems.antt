-- Which numbered trees have a text, and what a problem keeps of its goal.
use Rattle.std.specs.Prelude.{◌≡◌, ℕ, Bool, true, not, ◌||◌, nat_eq, nat_lt, List, [], ◌∷◌, Option}
use Rattle.heap_formula.specs.declared.judgements.Judgement.{Judgement}
use Rattle.heap_formula.specs.declared.judgements.Judgement.TheVariants.{Entail, Term as Halting}
use Rattle.heap_formula.specs.Definitions.{Definition}
use Rattle.heap_formula.specs.Symbolic.{SymbolicHeap}
use Rattle.pred_defs.specs.declared.faults.DefFault.{DefFault}
use Rattle.pred_defs.specs.Faults.{first_fault, case_fault}
use Rattle.problem_syntax.specs.Grammar.{problem}
use Rattle.problem_syntax.specs.Trees as named
use Rattle.problem_syntax.specs.Numbered as numbers
use Rattle.problem_syntax.specs.Numbering.{numbered}

-- the numbers are those of a tree with names that the grammar has
abbrev pub IsOfText : numbers.Problem → Type 0
IsOfText tree = (names : named.Problem) × problem.fits names × (numbered names ≡ tree)

abbrev pub goal_heaps : Judgement → List SymbolicHeap
goal_heaps (Entail a bs) = a ∷ bs
goal_heaps (Halting i a) = a ∷ []

-- the first use of a predicate in the goal that is at fault
abbrev pub goal_fault : List Definition → Judgement → Option DefFault
goal_fault ds goal = first_fault (case_fault ds) (goal_heaps goal)

-- the line of the goal, if it has one, is one of so many lines
abbrev pub has_line : ℕ → Judgement → Bool
has_line count (Entail a bs) = true
has_line count (Halting i a) = not (nat_eq i 0 || nat_lt count i)
