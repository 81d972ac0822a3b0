-- What the tokens of a statement do to a stage, whatever comes after them.
use Rattle.std.proofs.Common.{◌≡◌, ℕ, suc, ◌+◌, ◌≤◌, Bool, true, false, List, [], ◌∷◌, ◌++◌, length, take, drop, Option}
use Rattle.std.proofs.Common.{Some, None, Result, Ok, Err, refl, sym, ap, ◌∙◌, arith, length-append, append_assoc, inl}
use Rattle.std.proofs.Common.{inr}
use Rattle.std.specs.Prelude.{map}
use Rattle.std.proofs.lemmas.List.{append-nil, take_at, drop_at, length-map, map-append}
use Rattle.cyc_lex.specs.Placed.{Placed}
use Rattle.cyc_lex.specs.Word.{Word, word_of}
use Rattle.cyc_lex.specs.declared.fault.ReadFault.{ReadFault}
use Rattle.cyc_grammar.specs.Syntax.{Reading, ◌>>=◌, Syntax, one, before, read_class, read_one, all_taken, read_whole}
use Rattle.cyc_grammar.specs.Classes.{the_end}
use Rattle.cyc_grammar.proofs.Laws.{Lawful, one-law, before-law, whole_fault}
use Rattle.cyc_grammar.proofs.ClassLaws.{symbol-law, keyword-law, the_end-law}
use Rattle.heap_syntax.specs.Versions.{limits}
use Rattle.proof_syntax.specs.Trees.{Node}
use Rattle.proof_syntax.specs.Grammar.{last_word, semicolon, node, more_nodes, file}
use Rattle.proof_syntax.proofs.GrammarLaws.{more_nodes-law, more_nodes-close, file-law}
use Rattle.proof_syntax.specs.Left.{Nodes as Among, At, left_of, statement_of, joined}
use Rattle.proof_syntax.proofs.LeftLaws.{statement-law, statement-first, statement-fault}
use Rattle.proof_syntax.proofs.StatementStatements.{fault-stays}
use Rattle.proof_file.specs.Flaws.{node_flaw}
use Rattle.proof_file.specs.Spans.{node_span}
use Rattle.proof_file.specs.Values.{node_value}
use Rattle.proof_file.proofs.SpanLaws.{node_words}
use Rattle.file_reader.specs.Outcomes.{Faulty, or_else, told_flaw, settled, syntax_fault, file_outcome, whole_outcome}
use Rattle.file_reader.specs.Stages.{Begun, Head, Nodes, Dead, nodes_fault, said_with, nodes_left, nodes_outcome}
use Rattle.file_reader.specs.Steps.{Takes, with_node, with_end}
use Rattle.file_reader.proofs.Tokens.{syntax-later, syntax-first}

pub or-else-again : (a b c : Option ReadFault) → or_else a (or_else b c) ≡ or_else (or_else a b) c
or-else-again (Some x) b c = refl
or-else-again None b c = refl

-- ---- the grammar after a node

pub nodes-lawful : Lawful (left_of (At Among))
nodes-lawful =
    before-law (before (before more_nodes last_word) semicolon) the_end the_end-law
    (before-law (before more_nodes last_word) semicolon (symbol-law _)
    (before-law more_nodes last_word (keyword-law _) more_nodes-law (λ ns f. more_nodes-close ns)) (λ ns f. refl))
    (λ ns f. refl)

pub whole-within : {T : Type 0} (s : Syntax T) → Lawful s → (ws : List Word) (left : ℕ) → read_whole s ws ≡ Err left
    → left ≤ length ws
whole-within s law ws left e = let f = whole_fault s law ws left e in
    omega (arith, f.size, ap length f.parts, length-append f.front f.rest)

pub fault-within : {T : Type 0} (s : Syntax T) → Lawful s → (ws : List Word) (left : ℕ) → s.read ws ≡ Err left
    → left ≤ length ws
fault-within s law ws left e = let f = law.fault ws left e in
    omega (arith, f.size, ap length f.parts, length-append f.front f.rest)

-- a node, and the nodes after it
abbrev one_more : Node → Result (List Node) ℕ → Result (List Node) ℕ
one_more x q = q >>= λ xs. Ok (x ∷ xs)

left-node : (ws more : List Word) (x : Node) → (statement_of Among).read ws ≡ Ok (inl x, [])
    → nodes_left false (ws ++ more) ≡ one_more x (nodes_left false more)
left-node ws more x e = ap (λ (q : Reading (List Node)). q >>= λ y. all_taken y.0 y.1)
    (statement-first Among ws more (inl x) e) ∙ by ((left_of (At Among)).read more)
  where
    taken : (xs : List Node) (r : List Word) → all_taken (x ∷ xs) r ≡ one_more x (all_taken xs r)
    taken xs [] = refl
    taken xs (d ∷ r) = refl

    by : (q : Reading (List Node)) → (joined (λ xs. x ∷ xs) q >>= λ y. all_taken y.0 y.1)
        ≡ one_more x (q >>= λ y. all_taken y.0 y.1)
    by (Err n) = refl
    by (Ok y) = taken y.0 y.1

left-end : (ws more : List Word) → (statement_of Among).read ws ≡ Ok (inr tt, [])
    → nodes_left false (ws ++ more) ≡ nodes_left true more
left-end ws more e = ap (λ (q : Reading (List Node)). q >>= λ y. all_taken y.0 y.1)
    (statement-first Among ws more (inr tt) e) ∙ by (read_class the_end more)
  where
    taken : (u : Unit {0}) (r : List Word) → all_taken {T = List Node} [] r ≡ (all_taken u r >>= λ v. Ok [])
    taken u [] = refl
    taken u (d ∷ r) = refl

    by : (q : Reading (Unit {0})) → (joined {B = List Node} (λ u. []) q >>= λ y. all_taken y.0 y.1)
        ≡ ((q >>= λ y. all_taken y.0 y.1) >>= λ v. Ok [])
    by (Err n) = refl
    by (Ok y) = taken y.0 y.1

left-fault : (ws more : List Word) (left : ℕ) → (statement_of Among).read ws ≡ Err (suc left)
    → nodes_left false (ws ++ more) ≡ Err (suc (left + length more))
left-fault ws more left e = ap (λ (q : Reading (List Node)). q >>= λ y. all_taken y.0 y.1)
    (statement-fault Among ws more left e)

-- ---- tokens that are not read yet

-- before the first node they are kept
pub head-step : (front ts : List Placed) → Takes (Head front) ts (Head (front ++ ts))
head-step front ts us = ap whole_outcome (sym (append_assoc front ts us))

-- after a syntax fault they say nothing
pub dead-step : (fault : ReadFault) (ts : List Placed) → Takes (Dead fault) ts (Dead fault)
dead-step fault ts us = refl

-- ---- a node

step-node : (b : Begun) (ts us : List Placed) (x : Node) (q : Result (List Node) ℕ) → node_span x ≡ length ts
    → ((left : ℕ) → q ≡ Err left → left ≤ length us) → nodes_outcome b (ts ++ us) (one_more x q)
    ≡ nodes_outcome (with_node b ts x) us q
step-node b ts us x (Err left) span within = ap (λ f. Faulty f) (syntax-later b.tokens left ts us (within left refl))
step-node b ts us x (Ok xs) span within = λ i. settled (fault i) (said i)
  where
    front : take (node_span x) (ts ++ us) ≡ ts
    front = take_at ts us (node_span x) (sym span)

    rest : drop (node_span x) (ts ++ us) ≡ us
    rest = drop_at ts us (node_span x) (sym span)

    here : Option ReadFault
    here = told_flaw b.tokens ts (node_flaw (limits b.version) b.headings b.lines b.count b.tokens x)

    others : Option ReadFault
    others = nodes_fault (limits b.version) b.headings b.lines (suc b.count) (b.tokens + length ts) us xs

    both : nodes_fault (limits b.version) b.headings b.lines b.count b.tokens (ts ++ us) (x ∷ xs)
        ≡ or_else here others
    both = λ i. or_else (told_flaw b.tokens (front i) (node_flaw (limits b.version)
        b.headings b.lines b.count b.tokens x)) (nodes_fault (limits b.version) b.headings b.lines (suc b.count)
        (b.tokens + span i) (rest i) xs)

    fault : or_else b.flaw (nodes_fault (limits b.version) b.headings b.lines b.count b.tokens (ts ++ us)
        (x ∷ xs)) ≡ or_else (or_else b.flaw here) others
    fault = ap (or_else b.flaw) both ∙ or-else-again b.flaw here others

    said : said_with b (x ∷ xs) ≡ said_with (with_node b ts x) xs
    said = ap (λ vs. record { version = b.version; definitions = b.definitions; program = b.program; nodes = vs })
        (sym (append_assoc b.nodes (node_value b.headings x ∷ []) (map (node_value b.headings) xs)))

-- a statement that is read as a node is a node's words
node-spelled : (ws : List Word) (x : Node) → (statement_of Among).read ws ≡ Ok (inl x, []) → node_span x ≡ length ws
node-spelled ws x e =
    let t = (statement-law Among).takes ws (inl x, []) e in
    sym (node_words x t.2) ∙ ap length (sym (append-nil (node.words x)) ∙ sym t.0)

pub node-step : (b : Begun) (ts : List Placed) (x : Node) → b.ended ≡ false
    → (statement_of Among).read (map word_of ts) ≡ Ok (inl x, []) → Takes (Nodes b) ts (Nodes (with_node b ts x))
node-step b ts x going e us =
    ap (λ (q : Result (List Node) ℕ). nodes_outcome b (ts ++ us) q) (
    ap (λ (k : Bool). nodes_left k (map word_of (ts ++ us))) going
    ∙ ap (nodes_left false) (map-append word_of ts us)
    ∙ left-node (map word_of ts) (map word_of us) x e)
    ∙ step-node b ts us x (nodes_left false (map word_of us))
    (node-spelled (map word_of ts) x e ∙ length-map ts word_of)
    (λ left bad. omega (
      arith,
      whole-within (left_of (At Among)) nodes-lawful (map word_of us) left bad,
      length-map us word_of,
    ))
    ∙ ap (λ (k : Bool). nodes_outcome (with_node b ts x) us (nodes_left k (map word_of us))) (sym going)

-- ---- "end;"

step-end : (b : Begun) (ts us : List Placed) (q : Result (Unit {0}) ℕ) → ((left : ℕ) → q ≡ Err left → left ≤ length us)
    → nodes_outcome b (ts ++ us) (q >>= λ u. Ok []) ≡ nodes_outcome (with_end b ts) us (q >>= λ u. Ok [])
step-end b ts us (Err left) within = ap (λ f. Faulty f) (syntax-later b.tokens left ts us (within left refl))
step-end b ts us (Ok u) within = refl

pub end-step : (b : Begun) (ts : List Placed) → b.ended ≡ false
    → (statement_of Among).read (map word_of ts) ≡ Ok (inr tt, []) → Takes (Nodes b) ts (Nodes (with_end b ts))
end-step b ts going e us =
    ap (λ (q : Result (List Node) ℕ). nodes_outcome b (ts ++ us) q) (
    ap (λ (k : Bool). nodes_left k (map word_of (ts ++ us))) going
    ∙ ap (nodes_left false) (map-append word_of ts us)
    ∙ left-end (map word_of ts) (map word_of us) e)
    ∙ step-end b ts us (read_whole (one the_end) (map word_of us))
    (λ left bad. omega (
      arith,
      whole-within (one the_end) (one-law the_end the_end-law) (map word_of us) left bad,
      length-map us word_of,
    ))

-- ---- syntax faults

pub node-fault-step : (b : Begun) (ts : List Placed) (left : ℕ) → b.ended ≡ false
    → (statement_of Among).read (map word_of ts) ≡ Err (suc left)
    → Takes (Nodes b) ts (Dead (syntax_fault b.tokens ts (suc left)))
node-fault-step b ts left going e us =
    let within = fault-within (statement_of Among) (statement-law Among) (map word_of ts) (suc left) e in
    ap (λ (q : Result (List Node) ℕ). nodes_outcome b (ts ++ us) q) (
    ap (λ (k : Bool). nodes_left k (map word_of (ts ++ us))) going
    ∙ ap (nodes_left false) (map-append word_of ts us)
    ∙ left-fault (map word_of ts) (map word_of us) left e)
    ∙ ap (λ n. Faulty (syntax_fault b.tokens (ts ++ us) n)) (omega (arith, length-map us word_of))
    ∙ ap (λ f. Faulty f) (syntax-first b.tokens (suc left) ts us (omega arith)
    (omega (arith, within, length-map ts word_of)))

-- after "end;" a word other than the end is dead
pub ended-step : (b : Begun) (t : Placed) (ts : List Placed) → b.ended ≡ true → the_end.value (word_of t) ≡ None
    → Takes (Nodes b) (t ∷ ts) (Dead (syntax_fault b.tokens (t ∷ ts) (suc (length ts))))
ended-step b t ts ended strange us =
    ap (λ (q : Result (List Node) ℕ). nodes_outcome b (t ∷ (ts ++ us)) q) (
    ap (λ (k : Bool). nodes_left k (map word_of (t ∷ (ts ++ us)))) ended
    ∙ ap (λ (o : Option (Unit {0})). (read_one o (word_of t) (map word_of (ts ++ us)) >>= λ y. all_taken y.0 y.1)
    >>= λ u. Ok []) strange)
    ∙ ap (λ n. Faulty (syntax_fault b.tokens (t ∷ (ts ++ us)) n))
    (omega (arith, length-map (ts ++ us) word_of, length-append ts us))
    ∙ ap (λ f. Faulty f) (syntax-first b.tokens (suc (length ts)) (t ∷ ts) us (omega arith) (omega arith))

-- before the first node
pub head-fault-step : (ts : List Placed) (left : ℕ) → file.read (map word_of ts) ≡ Err (suc left)
    → Takes (Head ts) [] (Dead (syntax_fault 0 ts (suc left)))
head-fault-step ts left e us =
    let within = fault-within file file-law (map word_of ts) (suc left) e in
    ap (λ (ws : List Word). file_outcome (ts ++ us) (read_whole file ws)) (map-append word_of ts us)
    ∙ ap (λ (q : Reading _). file_outcome (ts ++ us) (q >>= λ y. all_taken y.0 y.1))
    (fault-stays file file-law (map word_of ts) (map word_of us) left e)
    ∙ ap (λ n. Faulty (syntax_fault 0 (ts ++ us) n)) (omega (arith, length-map us word_of))
    ∙ ap (λ f. Faulty f) (syntax-first 0 (suc left) ts us (omega arith) (omega (arith, within, length-map ts word_of)))
