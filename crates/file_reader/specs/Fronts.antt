-- What stands before the nodes of a proof file, as it is read statement by statement.
use Rattle.std.specs.Prelude.{◌≡◌, ℕ, ◌+◌, List, [], ◌∷◌, ◌++◌, length, map, Result, Ok, Err, ◌⊎◌}
use Rattle.std.proofs.Common.{inl, inr}
use Rattle.cyc_lex.specs.Word.{Word}
use Rattle.cyc_basics.specs.declared.limits.TheConstants.{MOST_PURE}
use Rattle.cyc_grammar.specs.Syntax.{Reading}
use Rattle.cyc_grammar.specs.Giving.{Fails}
use Rattle.cyc_grammar.specs.declared.cursor.Refusal.{Refusal}
use Rattle.heap_syntax.specs.declared.keep.Keep.{Keep}
use Rattle.heap_syntax.specs.declared.keep.Keep.TheVariants.{Beyond}
use Rattle.heap_syntax.specs.declared.version.Version.{Version}
use Rattle.heap_reader.specs.Spans.{total}
use Rattle.heap_reader.specs.LineSpans.{line_span}
use Rattle.heap_reader.specs.EndSpans.{end_span}
use Rattle.proof_syntax.specs.Trees.{Definition, Line, End, Node, File, definition_of, end_of, node_of}
use Rattle.proof_syntax.specs.Grammar.{node, file, ends as ends_syntax}
use Rattle.proof_syntax.specs.Keeping.{definition_front, end_front, node_front}
use Rattle.proof_syntax.specs.Left.{Preds, Lines as AtLines, Ends as AtEnds, Nodes, Reached, At, Left, statement_of}
use Rattle.proof_syntax.specs.Left.{kept_statement, joined}
use Rattle.proof_file.specs.Spans.{definition_span, variable_span, term_span, node_span}
use Rattle.file_reader.specs.declared.part.Behind.{Behind}
use Rattle.file_reader.specs.declared.part.Behind.TheVariants.{Definitions, Lines, Ends}
use Rattle.file_reader.specs.declared.front.Front.{Front}
use Rattle.file_reader.specs.Steps.{Leads, tree_of}

-- ---- one statement

-- a definition, a line, an end, or a node
abbrev pub PartTree : Type 0
PartTree = Definition ⊎ (Line ⊎ (End ⊎ Node))

-- what is read where a definition or what follows one is to come; after lines no definition is, and after ends no line
abbrev pub IsPart : Behind → Version → List Word → List Word → PartTree → Type 0
IsPart Definitions v ws rest s = (statement_of (Preds v)).read ws ≡ Ok (s, rest)
IsPart Lines v ws rest (inl d) = ⊥
IsPart Lines v ws rest (inr s) = (statement_of (AtLines v)).read ws ≡ Ok (s, rest)
IsPart Ends v ws rest (inl d) = ⊥
IsPart Ends v ws rest (inr (inl l)) = ⊥
IsPart Ends v ws rest (inr (inr s)) = (statement_of (AtEnds v)).read ws ≡ Ok (s, rest)

-- more is kept of each list than any limit allows
abbrev pub kept : Keep
kept = Beyond MOST_PURE

-- the same, where so much is kept of it as it is read
abbrev pub kept_part : Behind → Version → List Word → Reading PartTree
kept_part Definitions v ws = (kept_statement kept (Preds v)).read ws
kept_part Lines v ws = joined (λ (s : Line ⊎ (End ⊎ Node)). inr s) ((kept_statement kept (AtLines v)).read ws)
kept_part Ends v ws = joined (λ (s : End ⊎ Node). inr (inr s)) ((kept_statement kept (AtEnds v)).read ws)

-- ---- where reading stands

-- the words before the rest lead to what is left of a file, with what was read before
pub record LeadsTo (ws : List Word) (r : Reached) (f : Left r → File) (rest : List Word) : Type 0 where
  pub front : List Word
  pub all : ws ≡ front ++ rest
  pub leads : Leads front r f

-- the version, and these definitions, lines and ends were read
abbrev pub LeadsFront : Behind → Version → List Definition → List Line → List End → List Word → List Word → Type 0
LeadsFront Definitions v ds ls es ws rest =
    (ls ≡ []) × (es ≡ [])
    × LeadsTo ws (At (Preds v)) (λ x. tree_of v (ds ++ x.0) x.1.0 x.1.1.0 x.1.1.1) rest
LeadsFront Lines v ds ls es ws rest =
    (es ≡ []) × LeadsTo ws (At (AtLines v)) (λ x. tree_of v ds (ls ++ x.0) x.1.0 x.1.1) rest
LeadsFront Ends v ds ls es ws rest = LeadsTo ws (At (AtEnds v)) (λ x. tree_of v ds ls (es ++ x.0) x.1) rest

abbrev pub front_size : List Definition → List Line → List End → ℕ
front_size ds ls es = 4 + total definition_span ds + total (line_span variable_span) ls + total (end_span term_span) es

-- and these trees are kept of the definitions and the ends
pub record IsFront (behind : Behind) (v : Version) (trees : List Definition) (ls : List Line) (left : List End)
    (ws rest : List Word) : Type 0 where
  pub definitions : List Definition
  pub ends : List End
  pub are : trees ≡ map (definition_front kept) definitions
  pub ends_are : left ≡ map (end_front kept) ends
  pub leads : LeadsFront behind v definitions ls ends ws rest
  pub size : length ws ≡ front_size definitions ls ends + length rest
  pub ends_fit : (ends_syntax v).fits ends

-- what is kept of the definitions and of the ends
abbrev pub front_defs : Front → List Definition
front_defs f = map definition_of f.definitions.items

abbrev pub front_ends : Front → List End
front_ends f = map end_of f.ends.items

-- what stands before the nodes was read, and the first node, which the grammar has; and the trees are kept of them
pub record IsBegun (ws : List Word) (f : Front) (rest : List Word) : Type 0 where
  pub definitions : List Definition
  pub ends : List End
  pub first : Node
  pub are : front_defs f ≡ map (definition_front kept) definitions
  pub ends_are : front_ends f ≡ map (end_front kept) ends
  pub is : node_of f.first ≡ node_front kept first
  pub leads : LeadsTo ws (At Nodes) (λ ns. tree_of f.version definitions f.lines.items ends (first ∷ ns)) rest
  pub before : f.before ≡ front_size definitions f.lines.items ends
  pub size : length ws ≡ front_size definitions f.lines.items ends + (node_span first + length rest)
  pub fits : node.fits first
  pub ends_fit : (ends_syntax f.version).fits ends

abbrev pub ReadsFront : List Word → Result Front Refusal → List Word → Type 0
ReadsFront ws (Ok f) rest = IsBegun ws f rest
ReadsFront ws (Err e) rest = Fails e (file.read ws)
