-- What reading a proof file answers.
use Rattle.std.specs.Prelude.{◌≡◌, ℕ, List, map, Result}
use Rattle.cyc_lex.specs.declared.fault.ReadFault.{ReadFault}
use Rattle.cyc_lex.specs.Placed.{Placed}
use Rattle.proof_syntax.specs.Trees.{File}
use Rattle.proof_syntax.specs.Grammar.{file}
use Rattle.heap_syntax.specs.Versions.{limits}
use Rattle.heap_reader.specs.Reading as reading
use Rattle.proof_file.specs.declared.file.ProofFile.{ProofFile}
use Rattle.proof_file.specs.Flaws.{headings, file_flaw}
use Rattle.heap_reader.specs.EndValues.{ended_value}
use Rattle.proof_file.specs.Values.{term_value, definition_value, node_value}

-- the file that a tree says
pub record IsFileOf (tree : File) (f : ProofFile) : Type 0 where
  pub version : f.version ≡ tree.version
  pub most : f.defs.most ≡ limits tree.version
  pub definitions : f.defs.list ≡ map (definition_value (headings tree.definitions)) tree.definitions
  pub program : f.program ≡ ended_value term_value (headings tree.definitions) tree.lines tree.ends
  pub nodes : f.nodes ≡ map (node_value (headings tree.definitions)) tree.nodes

abbrev pub proof_files : reading.Format File ProofFile
proof_files = record { syntax = file; flaw = file_flaw; Says = IsFileOf }

-- the bytes spell this file, or this is the first fault of the text: of its tokens, of its grammar, or of what it says
abbrev pub IsRead : List ℕ → Result ProofFile ReadFault → Type 0
IsRead = reading.IsRead proof_files

-- the same, out of memory being free
abbrev pub Reads : List ℕ → Result ProofFile ReadFault → Type 0
Reads = reading.Reads proof_files

abbrev pub ReadsFrom : List Placed → Result ProofFile ReadFault → Type 0
ReadsFrom = reading.ReadsFrom proof_files

-- two files have one version, the same definitions, the same program and the same nodes
pub record AreSame (f g : ProofFile) : Type 0 where
  pub version : f.version ≡ g.version
  pub most : f.defs.most ≡ g.defs.most
  pub definitions : f.defs.list ≡ g.defs.list
  pub program : f.program ≡ g.program
  pub nodes : f.nodes ≡ g.nodes

-- the file is read, unless memory runs out
abbrev pub IsReadAgain : ProofFile → Result ProofFile ReadFault → Type 0
IsReadAgain = reading.IsReadAgain AreSame
