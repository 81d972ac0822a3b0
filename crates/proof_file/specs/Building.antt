-- Files that are made part by part.
use Rattle.std.specs.Prelude.{◌≡◌, List, [], map, None, Some, Result, Ok, Err}
use Rattle.heap_syntax.specs.declared.version.Version.{Version}
use Rattle.heap_syntax.specs.Versions.{limits}
use Rattle.heap_formula.specs.declared.commands.Command.{Command}
use Rattle.heap_reader.specs.Flaws.{Found}
use Rattle.pred_defs.specs.Book.{DefinitionBook}
use Rattle.proof_syntax.specs.Trees.{Definition, Line, End, File}
use Rattle.proof_syntax.specs.Grammar.{file}
use Rattle.proof_file.specs.declared.building.NodeFault.{NodeFault}
use Rattle.proof_file.specs.declared.building.NodeFault.TheVariants as faults
use Rattle.proof_file.specs.FileNodes.{FileNode}
use Rattle.proof_file.specs.Flaws.{headings, file_flaw}
use Rattle.heap_reader.specs.EndValues.{ended_value}
use Rattle.proof_file.specs.Values.{term_value, definition_value, node_value}

-- what stands before the nodes
abbrev pub front_of : Version → List Definition → List Line → List End → File
front_of v ds ls es = record { version = v; definitions = ds; lines = ls; ends = es; nodes = [] }

-- the values are those of the tree
pub record IsSaid (t : File) (v : Version) (book : DefinitionBook) (commands : List Command) (xs : List FileNode)
    : Type 0 where
  pub version : v ≡ t.version
  pub most : book.most ≡ limits t.version
  pub definitions : book.list ≡ map (definition_value (headings t.definitions)) t.definitions
  pub program : commands ≡ ended_value term_value (headings t.definitions) t.lines t.ends
  pub nodes : xs ≡ map (node_value (headings t.definitions)) t.nodes

-- a tree that fits the grammar and has no flaw says these values
abbrev pub AreSaid : Version → DefinitionBook → List Command → List FileNode → Type 0
AreSaid v book commands xs = (t : File) × file.fits t × (file_flaw t ≡ None) × IsSaid t v book commands xs

-- a node's value, or its first flaw
abbrev pub IsNodeMade : Found → FileNode → Result FileNode NodeFault → Type 0
IsNodeMade flaw value (Ok x) = (flaw ≡ None) × (x ≡ value)
IsNodeMade flaw value (Err (faults.Flaw f)) = flaw ≡ Some f
IsNodeMade flaw value (Err faults.OutOfMemory) = Unit {0}
