-- Trees without where they lie in memory. A pick is what a run takes.
use Rattle.std.specs.Prelude.{ℕ, List, map}
use Rattle.general_models.specs.declared.runs.picks.Pick.{Pick}
use Rattle.general_models.specs.declared.runs.picks.Pick.TheVariants as picks
use Rattle.heap_syntax.specs.DefinitionTrees.{Heap, Definition, heap_of, definition_of}
use Rattle.heap_syntax.specs.NumberedEnds.{End, end_of}
use Rattle.proof_syntax.specs.Trees.{Line}
use Rattle.model_file.specs.declared.version.ModelVersion.{ModelVersion}
use Rattle.model_file.specs.Trees.{Cell, cell_of}
use Rattle.run_file.specs.declared.tree.PickTree.{PickTree}
use Rattle.run_file.specs.declared.tree.PickTree.TheVariants.{Cell as CellPicked, Jumps}
use Rattle.run_file.specs.declared.tree.Outcome.{Outcome}
use Rattle.run_file.specs.declared.tree.RunTree.{RunTree}

pub record Run : Type 0 where
  pub version : ModelVersion
  pub definitions : List Definition
  pub lines : List Line
  pub ends : List End
  pub line : ℕ
  pub precondition : Heap
  pub stack : List ℕ
  pub cells : List Cell
  pub picks : List Pick
  pub outcome : Outcome

-- ---- what a contract sees of the code's trees

abbrev pub pick_of : PickTree → Pick
pick_of (CellPicked c) = picks.Cell c.address c.fields.items
pick_of (Jumps b) = picks.Jumps b

abbrev pub run_of : RunTree → Run
run_of r = record {
  version = r.version;
  definitions = map definition_of r.definitions.items;
  lines = r.lines.items;
  ends = map end_of r.ends.items;
  line = r.line;
  precondition = heap_of r.precondition;
  stack = r.stack.items;
  cells = map cell_of r.cells.items;
  picks = map pick_of r.picks.items;
  outcome = r.outcome;
}
