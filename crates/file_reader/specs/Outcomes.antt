-- What a text comes to: a proof file, or the first fault.
use Rattle.std.specs.Prelude.{◌≡◌, ℕ, ◌+◌, ◌-◌, List, length, map, slice_get, Option, Some, None, Result, Ok, Err}
use Rattle.cyc_lex.specs.declared.fault.ReadFault.{ReadFault}
use Rattle.cyc_lex.specs.declared.fault.ReadFault.TheVariants as faults
use Rattle.cyc_lex.specs.Placed.{Placed}
use Rattle.cyc_lex.specs.Word.{word_of}
use Rattle.cyc_grammar.specs.Syntax.{read_whole}
use Rattle.heap_syntax.specs.declared.version.Version.{Version}
use Rattle.heap_syntax.specs.Versions.{limits}
use Rattle.heap_formula.specs.declared.commands.Command.{Command}
use Rattle.heap_formula.specs.Definitions.{Definition}
use Rattle.heap_reader.specs.declared.flaw.Flaw.{Flaw}
use Rattle.heap_reader.specs.Flaws.{Found}
use Rattle.heap_reader.specs.Told.{item_fault}
use Rattle.proof_syntax.specs.Trees.{File}
use Rattle.proof_syntax.specs.Grammar.{file}
use Rattle.proof_file.specs.declared.file.ProofFile.{ProofFile}
use Rattle.proof_file.specs.FileNodes.{FileNode}
use Rattle.proof_file.specs.Flaws.{headings, file_flaw}
use Rattle.heap_reader.specs.EndValues.{ended_value}
use Rattle.proof_file.specs.Values.{definition_value, term_value, node_value}

-- what a proof file says
pub record Said : Type 0 where
  pub version : Version
  pub definitions : List Definition
  pub program : List Command
  pub nodes : List FileNode

pub data Outcome : Type 0 where
  Faulty : ReadFault → Outcome
  Says : Said → Outcome

-- this file says so
pub record Has (s : Said) (f : ProofFile) : Type 0 where
  pub version : f.version ≡ s.version
  pub most : f.defs.most ≡ limits s.version
  pub definitions : f.defs.list ≡ s.definitions
  pub program : f.program ≡ s.program
  pub nodes : f.nodes ≡ s.nodes

-- the answer is the outcome
abbrev pub Agrees : Outcome → Result ProofFile ReadFault → Type 0
Agrees (Says s) (Ok f) = Has s f
Agrees (Says s) (Err fault) = ⊥
Agrees (Faulty fault) (Ok f) = ⊥
Agrees (Faulty fault) (Err e) = e ≡ fault

-- ---- faults, of tokens before which so many others stand

-- the fault at the token with this number
abbrev pub at_token : (ℕ → ℕ → ℕ → ReadFault) → ℕ → Option Placed → ReadFault
at_token fault token (Some t) = fault token t.line t.column
at_token fault token None = fault token 0 0

-- the token from which on so many are left is the first dead one
abbrev pub syntax_fault : ℕ → List Placed → ℕ → ReadFault
syntax_fault before ts left = at_token faults.Syntax (before + (length ts - left)) (slice_get ts (length ts - left))

abbrev pub flaw_fault : ℕ → List Placed → Flaw → ReadFault
flaw_fault before ts flaw = at_token (item_fault flaw.item) flaw.token (slice_get ts (flaw.token - before))

abbrev pub told_flaw : ℕ → List Placed → Found → Option ReadFault
told_flaw before ts None = None
told_flaw before ts (Some flaw) = Some (flaw_fault before ts flaw)

abbrev pub or_else : Option ReadFault → Option ReadFault → Option ReadFault
or_else (Some fault) later = Some fault
or_else None later = later

abbrev pub settled : Option ReadFault → Said → Outcome
settled (Some fault) s = Faulty fault
settled None s = Says s

-- ---- a whole file

abbrev pub said_of : File → Said
said_of tree = record {
  version = tree.version;
  definitions = map (definition_value (headings tree.definitions)) tree.definitions;
  program = ended_value term_value (headings tree.definitions) tree.lines tree.ends;
  nodes = map (node_value (headings tree.definitions)) tree.nodes;
}

abbrev pub file_outcome : List Placed → Result File ℕ → Outcome
file_outcome ts (Err left) = Faulty (syntax_fault 0 ts left)
file_outcome ts (Ok tree) = settled (told_flaw 0 ts (file_flaw tree)) (said_of tree)

abbrev pub whole_outcome : List Placed → Outcome
whole_outcome ts = file_outcome ts (read_whole file (map word_of ts))
