-- What a reader of a proof file does with the tokens of a statement.
use Rattle.std.specs.Prelude.{◌≡◌, ℕ, suc, ◌+◌, ◌⊎◌, true, false, List, [], ◌∷◌, ◌++◌, length, map}
use Rattle.std.proofs.Common.{inl, inr}
use Rattle.cyc_lex.specs.Placed.{Placed}
use Rattle.cyc_lex.specs.Word.{Word, word_of}
use Rattle.heap_syntax.specs.declared.version.Version.{Version}
use Rattle.heap_syntax.specs.Versions.{limits}
use Rattle.heap_reader.specs.Spans.{total}
use Rattle.heap_reader.specs.LineSpans.{line_span}
use Rattle.heap_reader.specs.EndSpans.{end_span}
use Rattle.proof_syntax.specs.Trees.{Definition, Line, End, Node, File}
use Rattle.proof_syntax.specs.Grammar.{file}
use Rattle.proof_syntax.specs.Left.{Part, First, Preds, Lines, Ends, Nodes as Among, Reached, At, Left, left_of}
use Rattle.proof_syntax.specs.Left.{Statement}
use Rattle.proof_syntax.specs.Left.{joined}
use Rattle.proof_file.specs.Flaws.{headings, node_flaw, first_node, file_flaw}
use Rattle.proof_file.specs.Spans.{definition_span, variable_span, term_span, node_span}
use Rattle.heap_reader.specs.EndValues.{ended_value}
use Rattle.proof_file.specs.Values.{definition_value, term_value, node_value}
use Rattle.file_reader.specs.Outcomes.{or_else, told_flaw}
use Rattle.file_reader.specs.Stages.{Begun, Stage, ahead}

-- the stage, with these tokens taken, is the other one: what the text comes to is the same, whatever tokens come after
abbrev pub Takes : Stage → List Placed → Stage → Type 0
Takes old ts new = (us : List Placed) → ahead old (ts ++ us) ≡ ahead new us

-- how many tokens a statement has
abbrev pub end_or_node_span : End ⊎ Node → ℕ
end_or_node_span (inl e) = end_span term_span e
end_or_node_span (inr n) = node_span n

abbrev pub later_span : Line ⊎ (End ⊎ Node) → ℕ
later_span (inl l) = line_span variable_span l
later_span (inr s) = end_or_node_span s

abbrev pub span_of : (p : Part) → Statement p → ℕ
span_of First v = 4
span_of (Preds v) (inl d) = definition_span d
span_of (Preds v) (inr s) = later_span s
span_of (Lines v) s = later_span s
span_of (Ends v) s = end_or_node_span s
span_of Among (inl n) = node_span n
span_of Among (inr u) = 2

-- ---- before the first node

-- words that begin a file, and what is made of what is left after them
abbrev pub Leads : List Word → (r : Reached) → (Left r → File) → Type 0
Leads ws r f = (more : List Word) → file.read (ws ++ more) ≡ joined f ((left_of r).read more)

abbrev pub tree_of : Version → List Definition → List Line → List End → List Node → File
tree_of v ds ls es xs = record { version = v; definitions = ds; lines = ls; ends = es; nodes = xs }

-- the tokens spell the version, definitions, lines, ends and nodes
pub record Spell (ts : List Placed) (v : Version) (ds : List Definition) (ls : List Line) (es : List End)
    (xs : List Node) : Type 0 where
  pub leads : Leads (map word_of ts) (At Among) (λ ns. tree_of v ds ls es (xs ++ ns))
  pub size : length ts ≡ first_node (tree_of v ds ls es xs) + total node_span xs

-- what is kept of them
abbrev pub begun_of : List Placed → Version → List Definition → List Line → List End → List Node → Begun
begun_of ts v ds ls es xs = record {
  version = v;
  headings = headings ds;
  lines = length ls;
  definitions = map (definition_value (headings ds)) ds;
  program = ended_value term_value (headings ds) ls es;
  nodes = map (node_value (headings ds)) xs;
  count = length xs;
  tokens = length ts;
  flaw = told_flaw 0 ts (file_flaw (tree_of v ds ls es xs));
  ended = false;
}

-- ---- from the first node on

-- with a node, whose tokens these are
abbrev pub with_node : Begun → List Placed → Node → Begun
with_node b ts x = record {
  version = b.version;
  headings = b.headings;
  lines = b.lines;
  definitions = b.definitions;
  program = b.program;
  nodes = b.nodes ++ node_value b.headings x ∷ [];
  count = suc b.count;
  tokens = b.tokens + length ts;
  flaw = or_else b.flaw (told_flaw b.tokens ts (node_flaw (limits b.version)
      b.headings b.lines b.count b.tokens x));
  ended = b.ended;
}

-- with "end;"
abbrev pub with_end : Begun → List Placed → Begun
with_end b ts = record {
  version = b.version;
  headings = b.headings;
  lines = b.lines;
  definitions = b.definitions;
  program = b.program;
  nodes = b.nodes;
  count = b.count;
  tokens = b.tokens + length ts;
  flaw = b.flaw;
  ended = true;
}
