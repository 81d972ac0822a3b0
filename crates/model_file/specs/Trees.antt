-- Trees without where they lie in memory.
use Rattle.std.specs.Prelude.{ℕ, List, map}
use Rattle.heap_syntax.specs.DefinitionTrees.{Heap, Definition, heap_of, definition_of}
use Rattle.model_file.specs.declared.version.ModelVersion.{ModelVersion}
use Rattle.model_file.specs.declared.syntax.tree.CellTree.{CellTree}
use Rattle.model_file.specs.declared.syntax.tree.ModelTree.{ModelTree}

pub record Cell : Type 0 where
  pub address : ℕ
  pub fields : List ℕ

pub record Model : Type 0 where
  pub version : ModelVersion
  pub definitions : List Definition
  pub stack : List ℕ
  pub cells : List Cell
  pub ask : Heap

-- ---- what a contract sees of the code's trees

abbrev pub cell_of : CellTree → Cell
cell_of c = record { address = c.address; fields = c.fields.items }

abbrev pub model_of : ModelTree → Model
model_of m = record {
  version = m.version;
  definitions = map definition_of m.definitions.items;
  stack = m.stack.items;
  cells = map cell_of m.cells.items;
  ask = heap_of m.ask;
}
