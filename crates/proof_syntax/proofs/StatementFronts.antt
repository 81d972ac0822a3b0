-- What is kept of a statement that is read is its front.
use Rattle.std.proofs.Common.{◌≡◌, ℕ, Bool, true, false, refl, inl, inr, ◌⊎◌, ap, ◌∙◌, Ok, Err, sym, List, []}
use Rattle.cyc_lex.specs.Word.{Word}
use Rattle.cyc_grammar.specs.Syntax.{Reading, ◌>>=◌, Syntax, is_one}
use Rattle.heap_syntax.specs.LineGrammar as commands
use Rattle.heap_syntax.specs.declared.keep.Keep.{Keep}
use Rattle.heap_syntax.specs.declared.version.Version.{Version}
use Rattle.heap_syntax.proofs.Fronts.{mapped, Fronts, same-front, both, alt-front, shaped-front}
use Rattle.heap_syntax.proofs.DefinitionFronts.{definition-front}
use Rattle.heap_syntax.proofs.NumberedEndLaws.{end-front}
use Rattle.proof_syntax.specs.Trees.{Definition, Line, End, Node}
use Rattle.proof_syntax.specs.Keeping.{definition_front, end_front, node_front}
use Rattle.proof_syntax.specs.Grammar.{pred_word, ends_word, node_word, variable, definition, kept_definition, end}
use Rattle.proof_syntax.specs.Grammar.{kept_end, node, kept_node}
use Rattle.proof_syntax.proofs.NodeFronts.{node-front}
use Rattle.proof_syntax.specs.Left.{Part, First, Preds, Lines, Ends, Nodes, Statement, first_statement, last_statement}
use Rattle.proof_syntax.specs.Left.{IsNode, the_node, end_or_node_over, end_or_node, kept_end_or_node, line_or_later}
use Rattle.proof_syntax.specs.Left.{kept_line_or_later, statement_of, kept_statement, end_or_node_front}
use Rattle.proof_syntax.specs.Left.{line_or_later_front, statement_front, next}

-- the same front in another form
as-front : {A : Type 0} (f g : A → A) (a b : Syntax A) → ((x : A) → f x ≡ g x) → Fronts f a b → Fronts g a b
as-front {A = A} f g a b same p = record { reads = λ ws. p.reads ws ∙ by (a.read ws) }
  where
    by : (r : Reading A) → (r >>= mapped f) ≡ (r >>= mapped g)
    by (Ok x) = ap (λ (y : A). Ok (y, x.1)) (same x.0)
    by (Err left) = refl

end_or_node-front : (k : Keep) (v : Version) → Fronts (end_or_node_front k) (end_or_node v) (kept_end_or_node k v)
unfolding end_or_node kept_end_or_node
end_or_node-front k v = by (commands.has_ends v)
  where
    same : (x : End ⊎ Node) → both (end_front k) (node_front k) x ≡ end_or_node_front k x
    same (inl e) = refl
    same (inr n) = refl

    by : (b : Bool) → Fronts (end_or_node_front k) (end_or_node_over b end node)
        (end_or_node_over b (kept_end k) (kept_node k))
    by true =
        as-front (both (end_front k) (node_front k)) (end_or_node_front k) _ _ same
        (alt-front (is_one ends_word) (end_front k) (node_front k) end node (kept_end k) (kept_node k) (end-front k)
        (node-front k))
    by false = shaped-front {A = Node} {C = Node} (node_front k) (end_or_node_front k) inr the_node IsNode inr the_node
        IsNode node (kept_node k) (λ n. refl) (node-front k)

line_or_later-front : (k : Keep) (v : Version)
    → Fronts (line_or_later_front k) (line_or_later v) (kept_line_or_later k v)
unfolding line_or_later kept_line_or_later
line_or_later-front k v =
    as-front (both (λ l. l) (end_or_node_front k)) (line_or_later_front k) _ _ same
    (alt-front (is_one commands.line_word) (λ l. l) (end_or_node_front k) (commands.line v variable) (end_or_node v)
    (commands.line v variable) (kept_end_or_node k v) (same-front (commands.line v variable)) (end_or_node-front k v))
  where
    same : (x : Line ⊎ (End ⊎ Node)) → both (λ l. l) (end_or_node_front k) x ≡ line_or_later_front k x
    same (inl l) = refl
    same (inr n) = refl

pub kept-front : (k : Keep) (p : Part) → Fronts (statement_front k p) (statement_of p) (kept_statement k p)
kept-front k First = as-front (λ v. v) (statement_front k First) first_statement first_statement (λ v. refl)
    (same-front first_statement)
kept-front k (Preds v) =
    as-front (both (definition_front k) (line_or_later_front k)) (statement_front k (Preds v)) _ _ same
    (alt-front (is_one pred_word) (definition_front k) (line_or_later_front k) definition (line_or_later v)
    (kept_definition k) (kept_line_or_later k v) (definition-front k) (line_or_later-front k v))
  where
    same : (x : Definition ⊎ (Line ⊎ (End ⊎ Node))) → both (definition_front k) (line_or_later_front k) x
        ≡ statement_front k (Preds v) x
    same (inl d) = refl
    same (inr s) = refl
kept-front k (Lines v) = line_or_later-front k v
kept-front k (Ends v) = end_or_node-front k v
kept-front k Nodes =
    as-front (both (node_front k) (λ u. u)) (statement_front k Nodes) _ _ same
    (alt-front (is_one node_word) (node_front k) (λ u. u) node last_statement (kept_node k) last_statement
    (node-front k) (same-front last_statement))
  where
    same : (x : Node ⊎ Unit {0}) → both (node_front k) (λ u. u) x ≡ statement_front k Nodes x
    same (inl n) = refl
    same (inr u) = refl

abbrev value_in : {A : Type 0} → A → Reading A → A
value_in d (Ok x) = x.0
value_in d (Err n) = d

abbrev rest_in : {A : Type 0} → Reading A → List Word
rest_in (Ok x) = x.1
rest_in (Err n) = []

not-read : {A : Type 0} (q : Reading A) (n : ℕ) (x : A) (rest : List Word) → q ≡ Err n → q ≡ Ok (x, rest) → ⊥
not-read q n x rest e f = cc

-- what is kept of a statement is kept of one that is read of the same words
pub from-kept : (k : Keep) (p : Part) (ws rest : List Word) (s : Statement p)
    → (kept_statement k p).read ws ≡ Ok (s, rest) → (t : Statement p) × ((statement_of p).read ws ≡ Ok (t, rest))
    × (statement_front k p t ≡ s)
from-kept k p ws rest s e = by ((statement_of p).read ws) refl
  where
    got : ((statement_of p).read ws >>= mapped (statement_front k p)) ≡ Ok (s, rest)
    got = sym ((kept-front k p).reads ws) ∙ e

    by : (q : Reading (Statement p)) → (statement_of p).read ws ≡ q
        → (t : Statement p) × ((statement_of p).read ws ≡ Ok (t, rest)) × (statement_front k p t ≡ s)
    by (Ok x) same =
        let is = sym (ap (λ (q : Reading (Statement p)). q >>= mapped (statement_front k p)) same) ∙ got in
        (x.0, same ∙ ap (λ (ws : List Word). Ok (x.0, ws)) (ap rest_in is), ap (value_in s) is)
    by (Err n) same =
        absurd (not-read ((statement_of p).read ws >>= mapped (statement_front k p)) n s rest
        (ap (λ (q : Reading (Statement p)). q >>= mapped (statement_front k p)) same) got)

-- it leads on as the whole statement does
pub next-front : (k : Keep) (p : Part) (t : Statement p) → next p (statement_front k p t) ≡ next p t
next-front k First v = refl
next-front k (Preds v) (inl d) = refl
next-front k (Preds v) (inr (inl l)) = refl
next-front k (Preds v) (inr (inr (inl e))) = refl
next-front k (Preds v) (inr (inr (inr n))) = refl
next-front k (Lines v) (inl l) = refl
next-front k (Lines v) (inr (inl e)) = refl
next-front k (Lines v) (inr (inr n)) = refl
next-front k (Ends v) (inl e) = refl
next-front k (Ends v) (inr n) = refl
next-front k Nodes (inl n) = refl
next-front k Nodes (inr u) = refl
