-- What is left of a proof file after some of its statements: a statement, and what is left after that one.
use Rattle.std.specs.Prelude.{Bool, true, false, List, [], ◌∷◌, ◌⊎◌, Ok}
use Rattle.std.proofs.Common.{inl, inr}
use Rattle.cyc_grammar.specs.Syntax.{Reading, Syntax, one, seq, alt, shaped, after, before, is_one, ◌>>=◌}
use Rattle.cyc_grammar.specs.Classes.{the_end}
use Rattle.heap_syntax.specs.declared.keep.Keep.{Keep}
use Rattle.heap_syntax.specs.declared.version.Version.{Version}
use Rattle.heap_syntax.specs.LineGrammar as commands
use Rattle.proof_syntax.specs.Trees.{Definition, Line, End, Node, File}
use Rattle.proof_syntax.specs.Keeping.{definition_front, end_front, node_front}
use Rattle.proof_syntax.specs.Grammar.{cyclist_word, proof_word, pred_word, node_word, last_word, semicolon, version}
use Rattle.proof_syntax.specs.Grammar.{variable, lines, definition, kept_definition, definitions, ends_word, end}
use Rattle.proof_syntax.specs.Grammar.{kept_end, ends, some_node, node, kept_node, more_nodes, nodes, file}

-- where a statement is to come: the first of all; a definition, or what may follow one; a line, an end or a node; an
-- end or a node; a node, or the last of all
pub data Part : Type 0 where
  First : Part
  Preds : Version → Part
  Lines : Version → Part
  Ends : Version → Part
  Nodes : Part

pub data Reached : Type 0 where
  At : Part → Reached
  Ended : Reached

-- ---- what is left of a file

abbrev pub Left : Reached → Type 0
Left (At First) = File
Left (At (Preds v)) = List Definition × (List Line × (List End × List Node))
Left (At (Lines v)) = List Line × (List End × List Node)
Left (At (Ends v)) = List End × List Node
Left (At Nodes) = List Node
Left Ended = Unit {0}

-- its grammar
abbrev pub left_of : (r : Reached) → Syntax (Left r)
left_of (At First) = file
left_of (At (Preds v)) =
    before (seq definitions (seq (lines v) (seq (ends v) (before nodes semicolon)))) the_end
left_of (At (Lines v)) = before (seq (lines v) (seq (ends v) (before nodes semicolon))) the_end
left_of (At (Ends v)) = before (seq (ends v) (before nodes semicolon)) the_end
left_of (At Nodes) = before (before (before more_nodes last_word) semicolon) the_end
left_of Ended = one the_end

-- ---- the statement that may come next

abbrev pub Statement : Part → Type 0
Statement First = Version
Statement (Preds v) = Definition ⊎ (Line ⊎ (End ⊎ Node))
Statement (Lines v) = Line ⊎ (End ⊎ Node)
Statement (Ends v) = End ⊎ Node
Statement Nodes = Node ⊎ Unit {0}

-- "cyclist" "proof" ( "1" | "2" | "3" ) ";"
unfoldable pub first_statement : Syntax Version
first_statement = after cyclist_word (after proof_word (before (one version) semicolon))

-- "end" ";"
unfoldable pub last_statement : Syntax (Unit {0})
last_statement = after last_word (one semicolon)

-- an end, where the version has them, or a node
abbrev pub IsNode : End ⊎ Node → Type 0
IsNode (inl e) = ⊥
IsNode (inr n) = Unit {0}

abbrev pub the_node : End ⊎ Node → Node
the_node (inl e) = some_node
the_node (inr n) = n

abbrev pub end_or_node_over : Bool → Syntax End → Syntax Node → Syntax (End ⊎ Node)
end_or_node_over true e n = alt (is_one ends_word) e n
end_or_node_over false e n = shaped {A = Node} inr the_node IsNode n

unfoldable pub end_or_node : Version → Syntax (End ⊎ Node)
end_or_node v = end_or_node_over (commands.has_ends v) end node

unfoldable pub line_or_later : Version → Syntax (Line ⊎ (End ⊎ Node))
line_or_later v = alt (is_one commands.line_word) (commands.line v variable) (end_or_node v)

abbrev pub statement_of : (p : Part) → Syntax (Statement p)
statement_of First = first_statement
statement_of (Preds v) = alt (is_one pred_word) definition (line_or_later v)
statement_of (Lines v) = line_or_later v
statement_of (Ends v) = end_or_node v
statement_of Nodes = alt (is_one node_word) node last_statement

-- the same, of whose lists of heaps and of whose heaps' lists so much is kept
unfoldable pub kept_end_or_node : Keep → Version → Syntax (End ⊎ Node)
kept_end_or_node k v = end_or_node_over (commands.has_ends v) (kept_end k) (kept_node k)

unfoldable pub kept_line_or_later : Keep → Version → Syntax (Line ⊎ (End ⊎ Node))
kept_line_or_later k v = alt (is_one commands.line_word) (commands.line v variable) (kept_end_or_node k v)

abbrev pub kept_statement : Keep → (p : Part) → Syntax (Statement p)
kept_statement k First = first_statement
kept_statement k (Preds v) = alt (is_one pred_word) (kept_definition k) (kept_line_or_later k v)
kept_statement k (Lines v) = kept_line_or_later k v
kept_statement k (Ends v) = kept_end_or_node k v
kept_statement k Nodes = alt (is_one node_word) (kept_node k) last_statement

-- what is kept of it
abbrev pub end_or_node_front : Keep → End ⊎ Node → End ⊎ Node
end_or_node_front k (inl e) = inl (end_front k e)
end_or_node_front k (inr n) = inr (node_front k n)

abbrev pub line_or_later_front : Keep → Line ⊎ (End ⊎ Node) → Line ⊎ (End ⊎ Node)
line_or_later_front k (inl l) = inl l
line_or_later_front k (inr s) = inr (end_or_node_front k s)

abbrev pub statement_front : Keep → (p : Part) → Statement p → Statement p
statement_front k First v = v
statement_front k (Preds v) (inl d) = inl (definition_front k d)
statement_front k (Preds v) (inr s) = inr (line_or_later_front k s)
statement_front k (Lines v) s = line_or_later_front k s
statement_front k (Ends v) s = end_or_node_front k s
statement_front k Nodes (inl n) = inl (node_front k n)
statement_front k Nodes (inr u) = inr u

-- where it leads
abbrev pub behind_end : Version → End ⊎ Node → Reached
behind_end v (inl e) = At (Ends v)
behind_end v (inr n) = At Nodes

abbrev pub behind_line : Version → Line ⊎ (End ⊎ Node) → Reached
behind_line v (inl l) = At (Lines v)
behind_line v (inr s) = behind_end v s

abbrev pub next : (p : Part) → Statement p → Reached
next First v = At (Preds v)
next (Preds v) (inl d) = At (Preds v)
next (Preds v) (inr s) = behind_line v s
next (Lines v) s = behind_line v s
next (Ends v) s = behind_end v s
next Nodes (inl n) = At Nodes
next Nodes (inr u) = Ended

-- with what is left after it
abbrev pub join_end : (v : Version) (s : End ⊎ Node) → Left (behind_end v s) → List End × List Node
join_end v (inl e) x = (e ∷ x.0, x.1)
join_end v (inr n) x = ([], n ∷ x)

abbrev pub join_line : (v : Version) (s : Line ⊎ (End ⊎ Node)) → Left (behind_line v s)
    → List Line × (List End × List Node)
join_line v (inl l) x = (l ∷ x.0, x.1)
join_line v (inr s) x = ([], join_end v s x)

abbrev pub join : (p : Part) (t : Statement p) → Left (next p t) → Left (At p)
join First v x =
    record { version = v; definitions = x.0; lines = x.1.0; ends = x.1.1.0; nodes = x.1.1.1 }
join (Preds v) (inl d) x = (d ∷ x.0, x.1)
join (Preds v) (inr s) x = ([], join_line v s x)
join (Lines v) s x = join_line v s x
join (Ends v) s x = join_end v s x
join Nodes (inl n) x = n ∷ x
join Nodes (inr u) x = []

-- what is read after a statement, with the statement
abbrev pub joined : {A B : Type 0} → (A → B) → Reading A → Reading B
joined f q = q >>= λ x. Ok (f x.0, x.1)
