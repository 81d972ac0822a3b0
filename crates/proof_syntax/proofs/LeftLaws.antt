-- What is left of a proof file is read as a statement, and then as what is left after that one.
use Rattle.std.proofs.Common.{◌≡◌, ℕ, suc, ◌+◌, Bool, true, false, List, [], ◌∷◌, ◌++◌, length, Ok, Err, refl, sym, ap}
use Rattle.std.proofs.Common.{◌∙◌, arith, inl, inr, ◌⊎◌, subst}
use Rattle.cyc_lex.specs.Word.{Word}
use Rattle.cyc_grammar.specs.Syntax.{Reading, ◌>>=◌, Syntax, one, seq, begins, alt, many, after, before, read_class}
use Rattle.cyc_grammar.specs.Syntax.{is_one}
use Rattle.cyc_grammar.specs.Classes.{the_end}
use Rattle.cyc_grammar.proofs.Laws.{Lawful, BeginsNot, one-law, alt-law, shaped-law, after-law, before-law, pair_up}
use Rattle.cyc_grammar.proofs.ClassLaws.{symbol-law, keyword-law}
use Rattle.heap_syntax.specs.declared.version.Version.{Version}
use Rattle.heap_syntax.specs.declared.version.Version.TheVariants.{One, Two, Three}
use Rattle.heap_syntax.proofs.WordTexts.{version-law}
use Rattle.heap_syntax.specs.LineGrammar as commands
use Rattle.heap_syntax.specs.EndGrammar as endings
use Rattle.heap_syntax.proofs.CommandLaws.{line-law, line-closed}
use Rattle.heap_syntax.proofs.NumberedEndLaws.{end-law, end-closed}
use Rattle.heap_syntax.proofs.DefinitionLaws.{definition-law, definition-closed}
use Rattle.proof_syntax.specs.Trees.{Line, End, Node, File}
use Rattle.proof_syntax.specs.Grammar.{cyclist_word, proof_word, pred_word, node_word, last_word, semicolon, version}
use Rattle.proof_syntax.specs.Grammar.{variable, lines, definition, definitions, ends_word, end, ends, terms, terms_of}
use Rattle.proof_syntax.specs.Grammar.{spatial, node, more_nodes, nodes, Contents, body, file}
use Rattle.proof_syntax.proofs.GrammarLaws.{behind_lines, node-law, node-closed, dollar_variables}
use Rattle.proof_syntax.specs.Left.{Part, First, Preds, Lines, Ends, Nodes, At, Left, left_of, Statement}
use Rattle.proof_syntax.specs.Left.{first_statement, last_statement, IsNode, the_node, end_or_node_over, end_or_node}
use Rattle.proof_syntax.specs.Left.{line_or_later, statement_of, behind_end, behind_line, next, join_end, join_line, join}
use Rattle.proof_syntax.specs.Left.{joined}
use Rattle.proof_syntax.proofs.StatementStatements.{HasWords, statement-stays, fault-stays}
use Rattle.proof_syntax.proofs.Listed.{then_word, word-joined, read-value, joined-twice, alt-first, alt-second}
use Rattle.proof_syntax.proofs.Listed.{listed-more, listed-none, ending-more, ending-none}

-- ---- each text of a statement has a word

definition-words : HasWords definition
unfolding definition
definition-words d f = omega arith

line-words : (v : Version) → HasWords (commands.line v variable)
unfolding commands.line
line-words v l f = omega arith

end-words : HasWords end
unfolding endings.end
end-words e f = omega arith

node-words : HasWords node
unfolding node
node-words n f = omega arith

-- ---- part by part

-- what is read from a statement on
abbrev from_statement : (p : Part) → Statement p × List Word → Reading (Left (At p))
from_statement p x = joined (join p x.0) ((left_of (next p x.0)).read x.1)

-- the words of a value of type A, where the statement t comes first
abbrev Begins_with : (p : Part) → List Word → Type 0
Begins_with p ws = (left_of (At p)).read ws ≡ ((statement_of p).read ws >>= from_statement p)

nodes-first : (ws : List Word) → Begins_with Nodes ws
unfolding more_nodes last_statement
nodes-first ws = by (begins (is_one node_word) ws) refl
  where
    by : (b : Bool) → begins (is_one node_word) ws ≡ b
        → (before (before (before (many (is_one node_word) node) last_word) semicolon) the_end).read ws
        ≡ ((alt (is_one node_word) node (after last_word (one semicolon))).read ws >>= from_statement Nodes)
    by true h =
        ending-more (is_one node_word) node last_word semicolon the_end node-law node-words ws h
        ∙ sym (alt-first (is_one node_word) node (after last_word (one semicolon)) ws (from_statement Nodes) h)
    by false h =
        ending-none (is_one node_word) node last_word semicolon the_end ws h
        ∙ sym (alt-second (is_one node_word) node (after last_word (one semicolon)) ws (from_statement Nodes) h)

-- the nodes, from the first on
nodes-behind : (ws : List Word) → (before nodes semicolon).read ws
    ≡ (node.read ws >>= λ x. joined (λ ns. x.0 ∷ ns) ((before (before more_nodes last_word) semicolon).read x.1))
unfolding nodes
nodes-behind ws = by (node.read ws)
  where
    ended : (t : Node) (r : Reading (List Node)) → then_word semicolon
        (joined {A = Node × List Node} (λ z. z.0 ∷ z.1) (pair_up t r)) ≡ joined (λ ns. t ∷ ns) (then_word semicolon r)
    ended t (Err n) = refl
    ended t (Ok y) = word-joined semicolon (λ ns. t ∷ ns) (Ok y)

    by : (r : Reading Node) → then_word semicolon (joined {A = Node × List Node} (λ z. z.0 ∷ z.1)
        (r >>= λ x. pair_up x.0 ((before more_nodes last_word).read x.1)))
        ≡ (r >>= λ x. joined (λ ns. x.0 ∷ ns) (then_word semicolon ((before more_nodes last_word).read x.1)))
    by (Err n) = refl
    by (Ok x) = ended x.0 ((before more_nodes last_word).read x.1)

-- the first node, where no end comes
first-node : (v : Version) (ws : List Word) → joined {A = List Node} {B = List End × List Node} (λ ns. ([], ns))
    (then_word the_end ((before nodes semicolon).read ws)) ≡
    (node.read ws >>= λ x. from_statement (Ends v) (inr x.0, x.1))
first-node v ws = ap (λ q. joined {A = List Node} {B = List End × List Node} (λ ns. ([], ns)) (then_word the_end q))
    (nodes-behind ws) ∙ by (node.read ws)
  where
    by : (r : Reading Node) → joined {A = List Node} {B = List End × List Node} (λ ns. ([], ns))
        (then_word the_end (r >>= λ x. joined (λ ns. x.0 ∷ ns)
        ((before (before more_nodes last_word) semicolon).read x.1)))
        ≡ (r >>= λ x. from_statement (Ends v) (inr x.0, x.1))
    by (Err n) = refl
    by (Ok x) =
        ap (λ q. joined {A = List Node} {B = List End × List Node} (λ ns. ([], ns)) q)
        (word-joined the_end (λ ns. x.0 ∷ ns) ((before (before more_nodes last_word) semicolon).read x.1))
        ∙ joined-twice {A = List Node} {B = List Node} {C = List End × List Node} (λ ns. ([], ns)) (λ ns. x.0 ∷ ns)
        (then_word the_end ((before (before more_nodes last_word) semicolon).read x.1))

-- in a version without ends
nodes-alone : (v : Version) (ws : List Word)
    → (before (seq (endings.ends_where false (terms_of (terms false)) (spatial (terms false)))
    (before nodes semicolon)) the_end).read ws
    ≡ ((end_or_node_over false end node).read ws >>= from_statement (Ends v))
nodes-alone v ws =
    ap (λ q. then_word the_end q) (read-value {A = List End} (before nodes semicolon) [] ws)
    ∙ word-joined {A = List Node} {B = List End × List Node} the_end (λ ns. ([], ns)) ((before nodes semicolon).read ws)
    ∙ first-node v ws ∙ by (node.read ws)
  where
    by : (r : Reading Node) → (r >>= λ x. from_statement (Ends v) (inr x.0, x.1))
        ≡ ((r >>= λ x. Ok (inr x.0, x.1)) >>= from_statement (Ends v))
    by (Err n) = refl
    by (Ok x) = refl

-- in a version with ends
ends-or-nodes : (v : Version) → ends v ≡ many (is_one ends_word) end → (ws : List Word)
    → (before (seq (ends v) (before nodes semicolon)) the_end).read ws
    ≡ ((end_or_node_over true end node).read ws >>= from_statement (Ends v))
ends-or-nodes v same ws = by (begins (is_one ends_word) ws) refl
  where
    Whole : Syntax (List End) → Type 0
    Whole s = (before (seq s (before nodes semicolon)) the_end).read ws
        ≡ (end.read ws >>= λ x. joined {A = List End × List Node} {B = List End × List Node}
        (λ p. (x.0 ∷ p.0, p.1)) ((before (seq s (before nodes semicolon)) the_end).read x.1))

    by : (b : Bool) → begins (is_one ends_word) ws ≡ b
        → (before (seq (ends v) (before nodes semicolon)) the_end).read ws
        ≡ ((alt (is_one ends_word) end node).read ws >>= from_statement (Ends v))
    by true h =
        subst Whole (sym same) (listed-more (is_one ends_word) end (before nodes semicolon) the_end end-law end-words ws h)
        ∙ sym (alt-first (is_one ends_word) end node ws (from_statement (Ends v)) h)
    by false h =
        ap (λ (s : Syntax (List End)). (before (seq s (before nodes semicolon)) the_end).read ws) same
        ∙ listed-none (is_one ends_word) end (before nodes semicolon) the_end ws h
        ∙ first-node v ws
        ∙ sym (alt-second (is_one ends_word) end node ws (from_statement (Ends v)) h)

ends-first : (v : Version) (ws : List Word) → Begins_with (Ends v) ws
unfolding endings.ends end_or_node
ends-first One ws = nodes-alone One ws
ends-first Two ws = nodes-alone Two ws
ends-first Three ws = ends-or-nodes Three refl ws

-- no line comes
past-lines : (v : Version) (ws : List Word) → joined {A = List End × List Node}
    {B = List Line × (List End × List Node)} (λ x. ([], x)) ((left_of (At (Ends v))).read ws)
    ≡ ((end_or_node v).read ws >>= λ x. from_statement (Lines v) (inr x.0, x.1))
past-lines v ws = ap (λ q. joined {A = List End × List Node} {B = List Line × (List End × List Node)}
    (λ x. ([], x)) q) (ends-first v ws) ∙ by ((end_or_node v).read ws)
  where
    by : (q : Reading (End ⊎ Node)) → joined {A = List End × List Node} {B = List Line × (List End × List Node)}
        (λ x. ([], x)) (q >>= from_statement (Ends v)) ≡ (q >>= λ x. from_statement (Lines v) (inr x.0, x.1))
    by (Err n) = refl
    by (Ok x) = joined-twice {A = Left (behind_end v x.0)} {B = List End × List Node}
        {C = List Line × (List End × List Node)} (λ y. ([], y)) (join_end v x.0) ((left_of (behind_end v x.0)).read x.1)

lines-first : (v : Version) (ws : List Word) → Begins_with (Lines v) ws
unfolding commands.lines line_or_later
lines-first v ws = by (begins (is_one commands.line_word) ws) refl
  where
    by : (b : Bool) → begins (is_one commands.line_word) ws ≡ b
        → (before (seq (many (is_one commands.line_word) (commands.line v variable)) (behind_lines v)) the_end).read ws
        ≡ ((alt (is_one commands.line_word) (commands.line v variable) (end_or_node v)).read ws >>= from_statement
        (Lines v))
    by true h =
        listed-more (is_one commands.line_word) (commands.line v variable) (behind_lines v) the_end
        (line-law v variable dollar_variables) (line-words v) ws h
        ∙ sym (alt-first (is_one commands.line_word) (commands.line v variable) (end_or_node v) ws
        (from_statement (Lines v)) h)
    by false h =
        listed-none (is_one commands.line_word) (commands.line v variable) (behind_lines v) the_end ws h
        ∙ past-lines v ws
        ∙ sym (alt-second (is_one commands.line_word) (commands.line v variable) (end_or_node v) ws
        (from_statement (Lines v)) h)

-- no definition comes
past-definitions : (v : Version) (ws : List Word) → joined {A = List Line × (List End × List Node)} {B = Contents}
    (λ x. ([], x)) ((left_of (At (Lines v))).read ws)
    ≡ ((line_or_later v).read ws >>= λ x. from_statement (Preds v) (inr x.0, x.1))
past-definitions v ws = ap (λ q. joined {A = List Line × (List End × List Node)} {B = Contents} (λ x. ([], x)) q)
    (lines-first v ws) ∙ by ((line_or_later v).read ws)
  where
    by : (q : Reading (Line ⊎ (End ⊎ Node))) → joined {A = List Line × (List End × List Node)} {B = Contents}
        (λ x. ([], x)) (q >>= from_statement (Lines v)) ≡ (q >>= λ x. from_statement (Preds v) (inr x.0, x.1))
    by (Err n) = refl
    by (Ok x) = joined-twice {A = Left (behind_line v x.0)} {B = List Line × (List End × List Node)} {C = Contents}
        (λ y. ([], y)) (join_line v x.0) ((left_of (behind_line v x.0)).read x.1)

preds-first : (v : Version) (ws : List Word) → Begins_with (Preds v) ws
unfolding definitions
preds-first v ws = by (begins (is_one pred_word) ws) refl
  where
    by : (b : Bool) → begins (is_one pred_word) ws ≡ b
        → (before (seq (many (is_one pred_word) definition) (seq (lines v) (behind_lines v))) the_end).read ws
        ≡ ((alt (is_one pred_word) definition (line_or_later v)).read ws >>= from_statement (Preds v))
    by true h =
        listed-more (is_one pred_word) definition (seq (lines v) (behind_lines v))
        the_end definition-law definition-words ws h
        ∙ sym (alt-first (is_one pred_word) definition (line_or_later v) ws (from_statement (Preds v)) h)
    by false h =
        listed-none (is_one pred_word) definition (seq (lines v) (behind_lines v)) the_end ws h
        ∙ past-definitions v ws
        ∙ sym (alt-second (is_one pred_word) definition (line_or_later v) ws (from_statement (Preds v)) h)

-- what stands after the version
abbrev read_behind : Version → List Word → Reading Contents
read_behind v ws = (seq definitions (seq (lines v) (behind_lines v))).read ws

abbrev said : Reading (Version × Contents) → Reading File
said q = then_word the_end (joined (λ z. join First z.0 z.1) q)

abbrev first_said : Reading Version → Reading File
first_said r = r >>= from_statement First

said-behind : (v : Version) (q : Reading Contents) → said (pair_up v q) ≡ joined (join First v) (then_word the_end q)
said-behind v (Err n) = refl
said-behind v (Ok y) = word-joined the_end (join First v) (Ok y)

said-semicolon : (v : Version) (r : Reading (Unit {0}))
    → said (pair_up v (r >>= λ x. read_behind v x.1)) ≡ first_said (r >>= λ y. Ok (v, y.1))
said-semicolon v (Err n) = refl
said-semicolon v (Ok x) = said-behind v (read_behind v x.1)

said-version : (r : Reading Version) → said (r >>= λ x. pair_up x.0
    (read_class semicolon x.1 >>= λ u. read_behind x.0 u.1)) ≡ first_said (then_word semicolon r)
said-version (Err n) = refl
said-version (Ok x) = said-semicolon x.0 (read_class semicolon x.1)

said-proof : (r : Reading (Unit {0})) → said (r >>= λ w. read_class version w.1 >>= λ x.
    pair_up x.0 (read_class semicolon x.1 >>= λ u. read_behind x.0 u.1))
    ≡ first_said (r >>= λ w. then_word semicolon (read_class version w.1))
said-proof (Err n) = refl
said-proof (Ok w) = said-version (read_class version w.1)

said-cyclist : (r : Reading (Unit {0})) → said (r >>= λ k. read_class proof_word k.1 >>= λ w.
    read_class version w.1 >>= λ x. pair_up x.0 (read_class semicolon x.1 >>= λ u. read_behind x.0 u.1))
    ≡ first_said (r >>= λ k. read_class proof_word k.1 >>= λ w. then_word semicolon (read_class version w.1))
said-cyclist (Err n) = refl
said-cyclist (Ok k) = said-proof (read_class proof_word k.1)

file-first : (ws : List Word) → Begins_with First ws
unfolding file body first_statement
file-first ws = said-cyclist (read_class cyclist_word ws)

pub begins-with : (p : Part) (ws : List Word) → Begins_with p ws
begins-with First ws = file-first ws
begins-with (Preds v) ws = preds-first v ws
begins-with (Lines v) ws = lines-first v ws
begins-with (Ends v) ws = ends-first v ws
begins-with Nodes ws = nodes-first ws

-- ---- each statement is read in one way, and nothing goes on after it

first-law : Lawful first_statement
unfolding first_statement
first-law = after-law cyclist_word _ (keyword-law _)
    (after-law proof_word _ (keyword-law _) (before-law (one version) semicolon (symbol-law _)
    (one-law version version-law) (λ v f. refl)))

last-law : Lawful last_statement
unfolding last_statement
last-law = after-law last_word (one semicolon) (keyword-law _) (one-law semicolon (symbol-law _))

end_or_node-law : (v : Version) → Lawful (end_or_node v)
unfolding end_or_node endings.end node
end_or_node-law v = by (commands.has_ends v)
  where
    here : (x : End ⊎ Node) → IsNode x → inr (the_node x) ≡ x
    here (inl e) h = absurd h
    here (inr n) h = refl

    by : (b : Bool) → Lawful (end_or_node_over b end node)
    by true = alt-law (is_one ends_word) end node (λ e f. refl) (λ n f. refl) end-law node-law
    by false = shaped-law {A = Node} inr the_node IsNode node (λ n f. (refl, tt)) here node-law

-- what begins neither an end nor a node begins none of both
end_or_node-not : (test : Word → Bool) → test (ends_word.word tt) ≡ false → test (node_word.word tt) ≡ false
    → (v : Version) (x : End ⊎ Node) → (end_or_node v).fits x → BeginsNot test ((end_or_node v).words x)
unfolding end_or_node endings.end node
end_or_node-not test h k v x f = by (commands.has_ends v) x f
  where
    by : (b : Bool) (x : End ⊎ Node) → (end_or_node_over b end node).fits x
        → BeginsNot test ((end_or_node_over b end node).words x)
    by true (inl e) f = h
    by true (inr n) f = k
    by false (inl e) f = absurd f.0
    by false (inr n) f = k

end_or_node-closed : (v : Version) (x : End ⊎ Node) (d : Word) → (end_or_node v).more x d ≡ false
unfolding end_or_node
end_or_node-closed v x d = by (commands.has_ends v) x
  where
    by : (b : Bool) (x : End ⊎ Node) → (end_or_node_over b end node).more x d ≡ false
    by true (inl e) = end-closed e d
    by true (inr n) = node-closed n d
    by false x = node-closed (the_node x) d

line_or_later-law : (v : Version) → Lawful (line_or_later v)
unfolding line_or_later commands.line
line_or_later-law v = alt-law (is_one commands.line_word) (commands.line v variable) (end_or_node v) (λ l f. refl)
    (λ x f. end_or_node-not (is_one commands.line_word) refl refl v x f) (line-law v variable dollar_variables)
    (end_or_node-law v)

pub statement-law : (p : Part) → Lawful (statement_of p)
unfolding definition line_or_later commands.line node last_statement
statement-law First = first-law
statement-law (Preds v) = alt-law (is_one pred_word) definition (line_or_later v) (λ d f. refl) not_pred definition-law
    (line_or_later-law v)
  where
    not_pred : (x : Line ⊎ (End ⊎ Node)) → (line_or_later v).fits x
        → BeginsNot (is_one pred_word) ((line_or_later v).words x)
    not_pred (inl l) f = refl
    not_pred (inr x) f = end_or_node-not (is_one pred_word) refl refl v x f
statement-law (Lines v) = line_or_later-law v
statement-law (Ends v) = end_or_node-law v
statement-law Nodes = alt-law (is_one node_word) node last_statement (λ n f. refl) (λ u f. refl) node-law last-law

line_or_later-closed : (v : Version) (x : Line ⊎ (End ⊎ Node)) (d : Word) → (line_or_later v).more x d ≡ false
unfolding line_or_later
line_or_later-closed v (inl l) d = line-closed v variable l d
line_or_later-closed v (inr x) d = end_or_node-closed v x d

statement-closed : (p : Part) (t : Statement p) (d : Word) → (statement_of p).more t d ≡ false
unfolding first_statement last_statement
statement-closed First v d = refl
statement-closed (Preds v) (inl x) d = definition-closed x d
statement-closed (Preds v) (inr x) d = line_or_later-closed v x d
statement-closed (Lines v) x d = line_or_later-closed v x d
statement-closed (Ends v) x d = end_or_node-closed v x d
statement-closed Nodes (inl n) d = node-closed n d
statement-closed Nodes (inr u) d = refl

-- a statement comes off the front of what is left
pub statement-first : (p : Part) (ws more : List Word) (t : Statement p) → (statement_of p).read ws ≡ Ok (t, [])
    → (left_of (At p)).read (ws ++ more) ≡ joined (join p t) ((left_of (next p t)).read more)
statement-first p ws more t e = begins-with p (ws ++ more)
    ∙ ap (λ (q : Reading (Statement p)). q >>= from_statement p)
    (statement-stays (statement_of p) (statement-law p) ws more t e (statement-closed p t))

-- its fault is that of all that is left
pub statement-fault : (p : Part) (ws more : List Word) (left : ℕ) → (statement_of p).read ws ≡ Err (suc left)
    → (left_of (At p)).read (ws ++ more) ≡ Err (suc (left + length more))
statement-fault p ws more left e = begins-with p (ws ++ more)
    ∙ ap (λ (q : Reading (Statement p)). q >>= from_statement p)
    (fault-stays (statement_of p) (statement-law p) ws more left e)
