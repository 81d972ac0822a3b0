-- What a reader of a proof file holds that was fed some of the text, and what the text comes to, whatever is fed next.
use Rattle.std.specs.Prelude.{ℕ, suc, ◌+◌, Bool, true, false, List, [], ◌∷◌, ◌++◌, take, drop, map, Option, None}
use Rattle.std.specs.Prelude.{Result, Ok, Err}
use Rattle.cyc_basics.specs.declared.limits.Limits.{Limits}
use Rattle.cyc_lex.specs.declared.fault.LexFault.{LexFault}
use Rattle.cyc_lex.specs.declared.fault.ReadFault.{ReadFault}
use Rattle.cyc_lex.specs.declared.fault.ReadFault.TheVariants as faults
use Rattle.cyc_lex.specs.declared.place.Place.{Place}
use Rattle.cyc_lex.specs.declared.place.Bad.{Bad}
use Rattle.cyc_lex.specs.Answer.{fault_of}
use Rattle.cyc_lex.specs.Lexing.{start}
use Rattle.cyc_lex.specs.Placed.{Placed}
use Rattle.cyc_lex.specs.Word.{Word, word_of}
use Rattle.cyc_grammar.specs.Syntax.{◌>>=◌, read_whole}
use Rattle.piecewise_lex.specs.Feeding.{tokens_from}
use Rattle.heap_syntax.specs.declared.version.Version.{Version}
use Rattle.heap_syntax.specs.Versions.{limits}
use Rattle.heap_formula.specs.declared.commands.Command.{Command}
use Rattle.heap_formula.specs.Definitions.{Definition}
use Rattle.heap_reader.specs.Trees.{Heading}
use Rattle.proof_syntax.specs.Trees.{Node}
use Rattle.proof_syntax.specs.Left.{At, Ended, Nodes as Among, left_of}
use Rattle.proof_file.specs.declared.file.ProofFile.{ProofFile}
use Rattle.proof_file.specs.FileNodes.{FileNode}
use Rattle.proof_file.specs.Flaws.{node_flaw}
use Rattle.proof_file.specs.Spans.{node_span}
use Rattle.proof_file.specs.Values.{node_value}
use Rattle.file_reader.specs.Outcomes.{Said, Outcome, Faulty, Agrees, or_else, told_flaw, settled, syntax_fault}
use Rattle.file_reader.specs.Outcomes.{whole_outcome}

-- ---- from the first node on

-- what the statements so far say: the version, the predicates' names and arities, the number of lines, and values alone
-- of definitions, lines and nodes; how many nodes and how many tokens came, the first flaw of them, if any, and whether
-- "end;" came
pub record Begun : Type 0 where
  pub version : Version
  pub headings : List Heading
  pub lines : ℕ
  pub definitions : List Definition
  pub program : List Command
  pub nodes : List FileNode
  pub count : ℕ
  pub tokens : ℕ
  pub flaw : Option ReadFault
  pub ended : Bool

-- the first flaw of nodes, each with its own tokens; n nodes and `before` tokens came before
abbrev pub nodes_fault : Limits → List Heading → ℕ → ℕ → ℕ → List Placed → List Node → Option ReadFault
nodes_fault most hs lines n before ts [] = None
nodes_fault most hs lines n before ts (x ∷ xs) =
    or_else (told_flaw before (take (node_span x) ts) (node_flaw most hs lines n before x))
    (nodes_fault most hs lines (suc n) (before + node_span x) (drop (node_span x) ts) xs)

-- with these nodes after those that came
abbrev pub said_with : Begun → List Node → Said
said_with b xs = record {
  version = b.version;
  definitions = b.definitions;
  program = b.program;
  nodes = b.nodes ++ map (node_value b.headings) xs;
}

-- the nodes that words spell, and "end;", where it has not come
abbrev pub nodes_left : Bool → List Word → Result (List Node) ℕ
nodes_left false ws = read_whole (left_of (At Among)) ws
nodes_left true ws = read_whole (left_of Ended) ws >>= λ u. Ok []

abbrev pub nodes_outcome : Begun → List Placed → Result (List Node) ℕ → Outcome
nodes_outcome b ts (Err left) = Faulty (syntax_fault b.tokens ts left)
nodes_outcome b ts (Ok xs) =
    settled (or_else b.flaw (nodes_fault (limits b.version) b.headings b.lines b.count b.tokens ts xs))
    (said_with b xs)

-- ---- what a reader holds

-- before the first node all tokens so far, since a use may name a later predicate, and a jump a later line; a syntax
-- fault, where one came; a lexical fault, which goes before all others; or that memory ran out
pub data Stage : Type 0 where
  Head : List Placed → Stage
  Nodes : Begun → Stage
  Dead : ReadFault → Stage
  Unlexed : LexFault → Stage
  Lost : Stage

-- the stage, and the bytes whose tokens are not in it: the place where they begin, and whether a comment goes on there
pub record Parts : Type 0 where
  pub stage : Stage
  pub place : Place
  pub comment : Bool
  pub pending : List ℕ

abbrev pub fresh : Parts
fresh = record { stage = Head []; place = start; comment = false; pending = [] }

-- ---- what the text comes to, with these tokens, or this bad place, after the stage

abbrev pub ahead : Stage → List Placed → Outcome
ahead (Head front) ts = whole_outcome (front ++ ts)
ahead (Nodes b) ts = nodes_outcome b ts (nodes_left b.ended (map word_of ts))
ahead (Dead fault) ts = Faulty fault
ahead (Unlexed fault) ts = Faulty (faults.Lex fault)
ahead Lost ts = Faulty faults.OutOfMemory

abbrev pub bad_ahead : Stage → LexFault → Outcome
bad_ahead (Head front) fault = Faulty (faults.Lex fault)
bad_ahead (Nodes b) fault = Faulty (faults.Lex fault)
bad_ahead (Dead first) fault = Faulty (faults.Lex fault)
bad_ahead (Unlexed first) fault = Faulty (faults.Lex first)
bad_ahead Lost fault = Faulty faults.OutOfMemory

abbrev pub behind : Stage → Result (List Placed) (Bad × Place) → Outcome
behind s (Ok ts) = ahead s ts
behind s (Err e) = bad_ahead s (fault_of e.0 e.1)

-- what the text comes to, where these bytes are the rest of it
abbrev pub outcome : Parts → List ℕ → Outcome
outcome s rest = behind s.stage (tokens_from s.place s.comment (s.pending ++ rest))

-- the answer of a reader that holds this, where these bytes are the rest of the text
abbrev pub FileFrom : Parts → List ℕ → Result ProofFile ReadFault → Type 0
FileFrom s rest answer = Agrees (outcome s rest) answer
