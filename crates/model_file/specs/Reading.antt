-- What reading a model file answers.
use Rattle.std.specs.Prelude.{◌≡◌, ℕ, List, map, Result}
use Rattle.cyc_lex.specs.declared.fault.ReadFault.{ReadFault}
use Rattle.cyc_lex.specs.Placed.{Placed}
use Rattle.heap_reader.specs.Reading as reading
use Rattle.heap_reader.specs.Values.{heap_value}
use Rattle.heap_reader.specs.DefinitionFlaws.{headings}
use Rattle.heap_reader.specs.DefinitionValues.{term_value, definition_value}
use Rattle.model_file.specs.Trees as trees
use Rattle.model_file.specs.Grammar.{model}
use Rattle.model_file.specs.declared.file.Model.{Model}
use Rattle.model_file.specs.Flaws.{allowed, model_flaw}
use Rattle.model_file.specs.Values.{cells_value}

-- the model that a tree says
pub record IsModelOf (tree : trees.Model) (m : Model) : Type 0 where
  pub version : m.version ≡ tree.version
  pub most : m.defs.most ≡ allowed tree
  pub definitions : m.defs.list ≡ map (definition_value (headings tree.definitions)) tree.definitions
  pub stack : m.stack ≡ tree.stack
  pub heap : m.heap ≡ cells_value tree.cells
  pub ask : m.ask ≡ heap_value term_value (headings tree.definitions) tree.ask

abbrev pub model_files : reading.Format trees.Model Model
model_files = record { syntax = model; flaw = model_flaw; Says = IsModelOf }

-- the bytes spell this model, or this is the first fault of the text: of its tokens, of its grammar, or of what it says
abbrev pub IsRead : List ℕ → Result Model ReadFault → Type 0
IsRead = reading.IsRead model_files

-- the same, out of memory being free
abbrev pub Reads : List ℕ → Result Model ReadFault → Type 0
Reads = reading.Reads model_files

abbrev pub ReadsFrom : List Placed → Result Model ReadFault → Type 0
ReadsFrom = reading.ReadsFrom model_files

-- two models have one version, and the same definitions, stack, heap and formula
pub record AreSame (m n : Model) : Type 0 where
  pub version : m.version ≡ n.version
  pub most : m.defs.most ≡ n.defs.most
  pub definitions : m.defs.list ≡ n.defs.list
  pub stack : m.stack ≡ n.stack
  pub heap : m.heap ≡ n.heap
  pub ask : m.ask ≡ n.ask

-- the model is read, unless memory runs out
abbrev pub IsReadAgain : Model → Result Model ReadFault → Type 0
IsReadAgain = reading.IsReadAgain AreSame
