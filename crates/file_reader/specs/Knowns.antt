-- What a reader holds of a proof file from the first node on.
use Rattle.std.specs.Prelude.{◌≡◌, ℕ, ◌≤◌, false, List, [], ◌∷◌, ◌++◌, length, map, Option, Some, None}
use Rattle.cyc_lex.specs.Placed.{Placed}
use Rattle.cyc_basics.specs.declared.limits.TheConstants.{MOST_PREDICATES}
use Rattle.heap_syntax.specs.Versions.{limits}
use Rattle.heap_formula.specs.declared.commands.Command.{Command}
use Rattle.heap_formula.specs.Definitions.{Definition as DefinitionValue}
use Rattle.heap_reader.specs.Trees.{Heading, defined_headings}
use Rattle.heap_reader.specs.EndValues.{ended_value}
use Rattle.proof_syntax.specs.Trees.{Definition, Line, End, Node}
use Rattle.proof_file.specs.declared.building.FileFront.{FileFront}
use Rattle.proof_file.specs.Flaws.{headings, node_flaw, file_flaw}
use Rattle.proof_file.specs.Values.{definition_value, term_value, node_value}
use Rattle.file_reader.specs.declared.known.KnownFront.{KnownFront}
use Rattle.file_reader.specs.declared.known.Found.{Found}
use Rattle.file_reader.specs.Outcomes.{or_else, told_flaw}
use Rattle.file_reader.specs.Stages.{Begun}
use Rattle.file_reader.specs.Steps.{tree_of, Spell}

abbrev pub defs_in : Option FileFront → List DefinitionValue
defs_in (Some f) = f.defs.list
defs_in None = []

abbrev pub program_in : Option FileFront → List Command
program_in (Some f) = f.program
program_in None = []

-- what is held, as what the statements so far say
abbrev pub begun_in : KnownFront → Found → Begun
begun_in k f = record {
  version = k.version;
  headings = defined_headings (defs_in k.front);
  lines = k.lines;
  definitions = defs_in k.front;
  program = program_in k.front;
  nodes = f.nodes.items;
  count = length f.nodes.items;
  tokens = f.tokens;
  flaw = f.flaw;
  ended = f.ended;
}

-- what uses of the predicates are compared with
pub record IsHeads (k : KnownFront) (hs : List Heading) : Type 0 where
  pub value : hs ≡ defined_headings (defs_in k.front)
  pub few : length hs ≤ MOST_PREDICATES

-- these are the values of definitions, lines and ends
pub record HasValues (k : KnownFront) (ds : List Definition) (ls : List Line) (es : List End) : Type 0 where
  pub front : FileFront
  pub is : k.front ≡ Some front
  pub most : front.defs.most ≡ limits k.version
  pub definitions : front.defs.list ≡ map (definition_value (headings ds)) ds
  pub program : front.program ≡ ended_value term_value (headings ds) ls es

-- tokens spell what is held, which has no flaw
pub record IsTold (k : KnownFront) (f : Found) : Type 0 where
  pub tokens : List Placed
  pub definitions : List Definition
  pub program : List Line
  pub ends : List End
  pub trees : List Node
  pub spell : Spell tokens k.version definitions program ends trees
  pub clean : file_flaw (tree_of k.version definitions program ends trees) ≡ None
  pub values : HasValues k definitions program ends
  pub lines : k.lines ≡ length program
  pub nodes : f.nodes.items ≡ map (node_value (headings definitions)) trees
  pub count : f.ended ≡ false → f.tokens ≡ length tokens

-- where there is no flaw so far, all that is held was told
abbrev pub IsSteady : KnownFront → Found → Type 0
IsSteady k f = f.flaw ≡ None → IsTold k f

-- a node came after others, whose tokens are among these: its value is with theirs, or this is the first flaw so far
pub record IsAdded (k : KnownFront) (hs : List Heading) (before : ℕ) (ts : List Placed) (x : Node) (old new : Found)
    : Type 0 where
  pub flaw : new.flaw ≡ or_else old.flaw (told_flaw before ts
      (node_flaw (limits k.version) hs k.lines (length old.nodes.items) old.tokens x))
  pub nodes : new.flaw ≡ None → new.nodes.items ≡ old.nodes.items ++ node_value hs x ∷ []
  pub tokens : new.tokens ≡ old.tokens
  pub ended : new.ended ≡ old.ended
