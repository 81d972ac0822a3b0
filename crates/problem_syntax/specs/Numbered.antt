-- Numbered trees without where they lie in memory.
use Rattle.std.specs.Prelude.{ℕ, List, map}
use Rattle.heap_syntax.specs.Trees as heaps
use Rattle.heap_syntax.specs.EndTrees as ends
pub use Rattle.heap_reader.specs.Trees.{spatial_of, heap_of, end_of}
use Rattle.heap_syntax.specs.declared.version.Version.{Version}
use Rattle.heap_syntax.specs.declared.lines.tree.LineTree.{LineTree}
use Rattle.problem_syntax.specs.Trees.{text_of}
use Rattle.problem_syntax.specs.declared.numbering.tree.NumberedTerm.{NumberedTerm}
use Rattle.problem_syntax.specs.declared.numbering.tree.NumberedDefinition.{NumberedDefinition}
use Rattle.problem_syntax.specs.declared.numbering.tree.NumberedGoal.{NumberedGoal}
use Rattle.problem_syntax.specs.declared.numbering.tree.NumberedGoal.TheVariants as goals
use Rattle.problem_syntax.specs.declared.numbering.tree.NumberedProblem.{NumberedProblem}

abbrev pub Spatial : Type 0
Spatial = heaps.Spatial NumberedTerm

abbrev pub Heap : Type 0
Heap = heaps.Heap NumberedTerm

abbrev pub Line : Type 0
Line = LineTree ℕ

abbrev pub End : Type 0
End = ends.End NumberedTerm

pub record Definition : Type 0 where
  pub name : List ℕ
  pub parameters : List (List ℕ)
  pub cases : List Heap

pub data Goal : Type 0 where
  Entailment : Heap → List Heap → Goal
  From : ℕ → Heap → Goal

pub record Problem : Type 0 where
  pub version : Version
  pub definitions : List Definition
  pub lines : List Line
  pub ends : List End
  pub goal : Goal

-- ---- what a contract sees of the code's trees

abbrev pub definition_of : NumberedDefinition → Definition
definition_of d = record {
  name = d.name.now;
  parameters = map text_of d.parameters.items;
  cases = map heap_of d.cases.items;
}

abbrev pub goal_of : NumberedGoal → Goal
goal_of (goals.Entailment h ds) = Entailment (heap_of h) (map heap_of ds.items)
goal_of (goals.From n h) = From n (heap_of h)

abbrev pub problem_of : NumberedProblem → Problem
problem_of p = record {
  version = p.version;
  definitions = map definition_of p.definitions.items;
  lines = p.lines.items;
  ends = map end_of p.ends.items;
  goal = goal_of p.goal;
}
