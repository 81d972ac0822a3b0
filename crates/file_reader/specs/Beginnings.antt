-- What stands before the nodes of a proof file, and its first node.
use Rattle.std.specs.Prelude.{◌≡◌, false, List, [], ◌++◌, length, map, None, Result, Ok, Err}
use Rattle.cyc_lex.specs.Placed.{Placed}
use Rattle.cyc_lex.specs.Word.{Word, word_of}
use Rattle.cyc_grammar.specs.Giving.{Fails}
use Rattle.cyc_grammar.specs.declared.cursor.Refusal.{Refusal}
use Rattle.proof_syntax.specs.Grammar.{file}
use Rattle.proof_file.specs.Flaws.{file_flaw}
use Rattle.file_reader.specs.declared.first_node.Beginning.{Beginning}
use Rattle.file_reader.specs.declared.front.Front.{Front}
use Rattle.file_reader.specs.Outcomes.{told_flaw}
use Rattle.file_reader.specs.Stages.{Head, Nodes}
use Rattle.file_reader.specs.Steps.{tree_of, Takes}
use Rattle.file_reader.specs.Knowns.{begun_in, HasValues, IsSteady}
use Rattle.file_reader.specs.Fronts.{front_defs, front_ends}

-- no node so far
pub record IsOpened (f : Front) (b : Beginning) : Type 0 where
  pub version : b.known.version ≡ f.version
  pub lines : b.known.lines ≡ length f.lines.items
  pub nodes : b.found.nodes.items ≡ []
  pub tokens : b.found.tokens ≡ f.before
  pub ended : b.found.ended ≡ false

-- what stands before the nodes, with its first flaw, if any, at one of these tokens, or with its values
pub record IsOpen (ts : List Placed) (f : Front) (b : Beginning) : Type 0 where
  pub opened : IsOpened f b
  pub flaw : b.found.flaw ≡ told_flaw 0 ts (file_flaw (tree_of f.version (front_defs f) f.lines.items (front_ends f) []))
  pub values : b.found.flaw ≡ None → HasValues b.known (front_defs f) f.lines.items (front_ends f)

-- tokens up to the first node were taken, and that too; these are the words of the others
pub record IsBeginning (ts : List Placed) (rest : List Word) (b : Beginning) : Type 0 where
  pub taken : List Placed
  pub left : List Placed
  pub all : ts ≡ taken ++ left
  pub words : rest ≡ map word_of left
  pub takes : Takes (Head []) taken (Nodes (begun_in b.known b.found))
  pub tokens : b.found.tokens ≡ length taken
  pub ended : b.found.ended ≡ false
  pub steady : IsSteady b.known b.found

abbrev pub Begins : List Placed → List Word → Result Beginning Refusal → Type 0
Begins ts rest (Ok b) = IsBeginning ts rest b
Begins ts rest (Err e) = Fails e (file.read (map word_of ts))
