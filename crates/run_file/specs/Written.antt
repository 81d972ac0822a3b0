-- What is written of a run: its values as a tree, predicates by their names, the cells of the heap by ascending
-- addresses.
use Rattle.std.specs.Prelude.{ℕ, List, map}
use Rattle.cyc_lex.specs.Spacing.{text_of}
use Rattle.heap_formula.specs.declared.commands.Command.{Command}
use Rattle.heap_formula.specs.Cells.{Cells}
use Rattle.heap_formula.specs.Definitions.{Definition as DefinitionValue}
use Rattle.heap_formula.specs.Symbolic.{SymbolicHeap}
use Rattle.general_models.specs.declared.runs.picks.Pick.{Pick}
use Rattle.heap_reader.specs.Written.{heap_tree, definition_tree, ends_tree}
use Rattle.proof_file.specs.Written.{lines_tree}
use Rattle.model_file.specs.declared.version.ModelVersion.{ModelVersion}
use Rattle.model_file.specs.Written.{cells_tree}
use Rattle.run_file.specs.declared.tree.Outcome.{Outcome}
use Rattle.run_file.specs.Trees.{Run}
use Rattle.run_file.specs.Grammar.{body}

-- a version, definitions, a program, the line and the precondition of the claim, a stack, a heap, picks and how the run
-- ends
abbrev pub tree_of : ModelVersion → List DefinitionValue → List Command → ℕ → SymbolicHeap → List ℕ → Cells → List Pick
    → Outcome → Run
tree_of version ds cs i a stack h ps o = record {
  version = version;
  definitions = map (definition_tree ds) ds;
  lines = lines_tree cs;
  ends = ends_tree ds cs;
  line = i;
  precondition = heap_tree ds a;
  stack = stack;
  cells = cells_tree h;
  picks = ps;
  outcome = o;
}

-- their text
abbrev pub text_of_run : ModelVersion → List DefinitionValue → List Command → ℕ → SymbolicHeap → List ℕ → Cells
    → List Pick → Outcome → List ℕ
text_of_run version ds cs i a stack h ps o = text_of (body.words (tree_of version ds cs i a stack h ps o))
