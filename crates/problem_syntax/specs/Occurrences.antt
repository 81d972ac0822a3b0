-- The names of heaps and of programs, in the order of the text.
use Rattle.std.specs.Prelude.{ℕ, not, true, false, List, [], ◌∷◌, ◌++◌, filter}
use Rattle.std.specs.List.{flat_map}
use Rattle.heap_syntax.specs.declared.tree.PureTree.{PureTree}
use Rattle.heap_syntax.specs.Trees.{Cell, Predicate}
use Rattle.heap_syntax.specs.declared.lines.tree.OperandTree.{OperandTree}
use Rattle.heap_syntax.specs.declared.lines.tree.OperandTree.TheVariants.{Nil as NilOperand, Variable}
use Rattle.heap_syntax.specs.declared.lines.tree.ChangeTree.{ChangeTree}
use Rattle.heap_syntax.specs.declared.lines.tree.ChangeTree.TheVariants.{New, Assign, Load, Store}
use Rattle.heap_syntax.specs.declared.lines.tree.CommandTree.{CommandTree}
use Rattle.heap_syntax.specs.declared.lines.tree.CommandTree.TheVariants.{Stop, Goto, Free, IfAny, If, StoreAtNil}
use Rattle.heap_syntax.specs.declared.lines.tree.CommandTree.TheVariants.{Change}
use Rattle.problem_syntax.specs.Trees.{Named, Nil, Plain, Primed, Spatial, Heap, Line, End, Goal, Entailment, From}
use Rattle.problem_syntax.specs.Trees.{Problem}
use Rattle.problem_syntax.specs.Names.{Name}

abbrev pub plain : List ℕ → Name
plain s = record { text = s; primed = false }

abbrev pub primed : List ℕ → Name
primed s = record { text = s; primed = true }

-- ---- heaps: pure atoms before spatial ones, a cell's address before its fields

abbrev pub term_names : Named → List Name
term_names Nil = []
term_names (Plain s) = plain s ∷ []
term_names (Primed s) = primed s ∷ []

abbrev pub pure_names : PureTree Named → List Name
pure_names x = term_names x.left ++ term_names x.right

abbrev pub spatial_names : Spatial → List Name
spatial_names (Cell t ts) = term_names t ++ flat_map term_names ts
spatial_names (Predicate name ts) = flat_map term_names ts

abbrev pub heap_names : Heap → List Name
heap_names h = flat_map pure_names h.pure ++ flat_map spatial_names h.spatial

-- those with a prime, and those without
abbrev pub primed_names : Heap → List Name
primed_names h = filter (λ n. n.primed) (heap_names h)

abbrev pub plain_names : Heap → List Name
plain_names h = filter (λ n. not n.primed) (heap_names h)

-- ---- lines: the variable that is set before what it is set to

abbrev pub operand_names : OperandTree (List ℕ) → List Name
operand_names NilOperand = []
operand_names (Variable s) = plain s ∷ []

abbrev pub change_names : ChangeTree (List ℕ) → List Name
change_names (New n) = []
change_names (Assign t) = operand_names t
change_names (Load t n) = operand_names t
change_names (Store n t) = operand_names t

abbrev pub command_names : CommandTree (List ℕ) → List Name
command_names Stop = []
command_names (IfAny n) = []
command_names (Goto n) = []
command_names (Free t) = operand_names t
command_names (If t b u n) = operand_names t ++ operand_names u
command_names (StoreAtNil n t) = operand_names t
command_names (Change s c) = plain s ∷ change_names c

abbrev pub line_names : Line → List Name
line_names l = command_names l.command

abbrev pub lines_names : List Line → List Name
lines_names ls = flat_map line_names ls

-- ---- ends: a primed name belongs to its disjunct alone

abbrev pub end_names : End → List Name
end_names e = flat_map plain_names e.disjuncts

abbrev pub ends_names : List End → List Name
ends_names es = flat_map end_names es

-- ---- programs: lines before ends

abbrev pub program_names : Problem → List Name
program_names p = lines_names p.lines ++ ends_names p.ends

-- ---- goals: the universal variables, those of the antecedent first; there a primed name is one too

abbrev pub goal_names : Goal → List Name
goal_names (Entailment h ds) = heap_names h ++ flat_map plain_names ds
goal_names (From n h) = heap_names h
