-- What reading a run file answers.
use Rattle.std.specs.Prelude.{◌≡◌, ℕ, List, map, Result}
use Rattle.cyc_lex.specs.declared.fault.ReadFault.{ReadFault}
use Rattle.cyc_lex.specs.Placed.{Placed}
use Rattle.heap_reader.specs.Reading as reading
use Rattle.heap_reader.specs.Values.{heap_value}
use Rattle.heap_reader.specs.DefinitionFlaws.{headings}
use Rattle.heap_reader.specs.DefinitionValues.{term_value, definition_value}
use Rattle.heap_reader.specs.EndValues.{ended_value}
use Rattle.model_file.specs.Values.{cells_value}
use Rattle.run_file.specs.Trees.{Run}
use Rattle.run_file.specs.Grammar.{run}
use Rattle.run_file.specs.declared.file.RunFile.{RunFile}
use Rattle.run_file.specs.Flaws.{allowed, run_flaw}

-- the run that a tree says
pub record IsRunOf (tree : Run) (r : RunFile) : Type 0 where
  pub version : r.version ≡ tree.version
  pub most : r.defs.most ≡ allowed tree
  pub definitions : r.defs.list ≡ map (definition_value (headings tree.definitions)) tree.definitions
  pub program : r.program ≡ ended_value term_value (headings tree.definitions) tree.lines tree.ends
  pub line : r.line ≡ tree.line
  pub precondition : r.precondition ≡ heap_value term_value (headings tree.definitions) tree.precondition
  pub stack : r.stack ≡ tree.stack
  pub heap : r.heap ≡ cells_value tree.cells
  pub picks : r.picks.items ≡ tree.picks
  pub outcome : r.outcome ≡ tree.outcome

abbrev pub run_files : reading.Format Run RunFile
run_files = record { syntax = run; flaw = run_flaw; Says = IsRunOf }

-- the bytes spell this run, or this is the first fault of the text: of its tokens, of its grammar, or of what it says
abbrev pub IsRead : List ℕ → Result RunFile ReadFault → Type 0
IsRead = reading.IsRead run_files

-- the same, out of memory being free
abbrev pub Reads : List ℕ → Result RunFile ReadFault → Type 0
Reads = reading.Reads run_files

abbrev pub ReadsFrom : List Placed → Result RunFile ReadFault → Type 0
ReadsFrom = reading.ReadsFrom run_files

-- two runs have one version, the same claim, stack, heap and picks, and end in the same way
pub record AreSame (r s : RunFile) : Type 0 where
  pub version : r.version ≡ s.version
  pub most : r.defs.most ≡ s.defs.most
  pub definitions : r.defs.list ≡ s.defs.list
  pub program : r.program ≡ s.program
  pub line : r.line ≡ s.line
  pub precondition : r.precondition ≡ s.precondition
  pub stack : r.stack ≡ s.stack
  pub heap : r.heap ≡ s.heap
  pub picks : r.picks.items ≡ s.picks.items
  pub outcome : r.outcome ≡ s.outcome

-- the run is read, unless memory runs out
abbrev pub IsReadAgain : RunFile → Result RunFile ReadFault → Type 0
IsReadAgain = reading.IsReadAgain AreSame
