-- Trees of problem files without where they lie in memory.
use Rattle.std.specs.Prelude.{ℕ, List, map}
use Rattle.std.specs.Borrow.{Bor}
use Rattle.heap_syntax.specs.Trees as heaps
use Rattle.heap_syntax.specs.declared.version.Version.{Version}
use Rattle.heap_syntax.specs.declared.lines.tree.LineTree.{LineTree}
use Rattle.heap_syntax.specs.LineTrees as commands
use Rattle.heap_syntax.specs.EndTrees as ends
use Rattle.heap_syntax.specs.declared.ends.tree.EndTree.{EndTree}
use Rattle.problem_syntax.specs.declared.tree.NameTree.{NameTree}
use Rattle.problem_syntax.specs.declared.tree.NameTree.TheVariants as names
use Rattle.problem_syntax.specs.declared.tree.DefinitionTree.{DefinitionTree}
use Rattle.problem_syntax.specs.declared.tree.GoalTree.{GoalTree}
use Rattle.problem_syntax.specs.declared.tree.GoalTree.TheVariants as goals
use Rattle.problem_syntax.specs.declared.tree.ProblemTree.{ProblemTree}
use Rattle.heap_syntax.specs.declared.tree.HeapTree.{HeapTree}

-- a term: nil, a name, or a name with a prime after it
pub data Named : Type 0 where
  Nil : Named
  Plain : List ℕ → Named
  Primed : List ℕ → Named

abbrev pub Spatial : Type 0
Spatial = heaps.Spatial Named

abbrev pub Heap : Type 0
Heap = heaps.Heap Named

abbrev pub Line : Type 0
Line = LineTree (List ℕ)

abbrev pub End : Type 0
End = ends.End Named

pub record Definition : Type 0 where
  pub name : List ℕ
  pub parameters : List (List ℕ)
  pub cases : List Heap

pub data Goal : Type 0 where
  Entailment : Heap → List Heap → Goal
  From : ℕ → Heap → Goal

pub record Problem : Type 0 where
  pub version : Version
  pub definitions : List Definition
  pub lines : List Line
  pub ends : List End
  pub goal : Goal

-- ---- what a contract sees of the code's trees

abbrev pub text_of : Bor (List ℕ) → List ℕ
text_of s = s.now

abbrev pub named_of : NameTree → Named
named_of names.Nil = Nil
named_of (names.Plain s) = Plain s.now
named_of (names.Primed s) = Primed s.now

abbrev pub heap_of : HeapTree NameTree → Heap
heap_of h = heaps.heap_of named_of h

abbrev pub line_of : LineTree (Bor (List ℕ)) → Line
line_of l = commands.line_of text_of l

abbrev pub end_of : EndTree NameTree → End
end_of e = ends.end_of named_of e

abbrev pub definition_of : DefinitionTree → Definition
definition_of d = record {
  name = d.name.now;
  parameters = map text_of d.parameters.items;
  cases = map heap_of d.cases.items;
}

abbrev pub goal_of : GoalTree → Goal
goal_of (goals.Entailment h ds) = Entailment (heap_of h) (map heap_of ds.items)
goal_of (goals.From n h) = From n (heap_of h)

abbrev pub problem_of : ProblemTree → Problem
problem_of p = record {
  version = p.version;
  definitions = map definition_of p.definitions.items;
  lines = map line_of p.lines.items;
  ends = map end_of p.ends.items;
  goal = goal_of p.goal;
}
