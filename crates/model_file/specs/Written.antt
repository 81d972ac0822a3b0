-- What is written of a model: its values as a tree, predicates by their names, the cells by ascending addresses.
use Rattle.std.specs.Prelude.{ℕ, List, map}
use Rattle.std.specs.FinMap.{entries}
use Rattle.cyc_lex.specs.Spacing.{text_of}
use Rattle.heap_formula.specs.Cells.{Cells}
use Rattle.heap_formula.specs.Definitions.{Definition as DefinitionValue}
use Rattle.heap_formula.specs.Symbolic.{SymbolicHeap}
use Rattle.heap_reader.specs.Written.{heap_tree, definition_tree}
use Rattle.model_file.specs.declared.version.ModelVersion.{ModelVersion}
use Rattle.model_file.specs.Trees.{Cell, Model}
use Rattle.model_file.specs.Grammar.{body, to_cell}

-- the cells of a heap, ascending
abbrev pub cells_tree : Cells → List Cell
cells_tree h = map to_cell (entries h)

abbrev pub tree_of : ModelVersion → List DefinitionValue → List ℕ → Cells → SymbolicHeap → Model
tree_of version ds stack h ask = record {
  version = version;
  definitions = map (definition_tree ds) ds;
  stack = stack;
  cells = cells_tree h;
  ask = heap_tree ds ask;
}

-- their text
abbrev pub text_of_model : ModelVersion → List DefinitionValue → List ℕ → Cells → SymbolicHeap → List ℕ
text_of_model version ds stack h ask = text_of (body.words (tree_of version ds stack h ask))
