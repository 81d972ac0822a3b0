-- From kept tokens to values: the first node is read.
use Rattle.std.proofs.Common.{◌≡◌, ℕ, zero, suc, ◌+◌, ◌-◌, ◌≤◌, List, [], ◌∷◌, ◌++◌, length, take, drop, false, Some}
use Rattle.std.proofs.Common.{None, Result, Ok, Err, refl, sym, ap, subst, ◌∙◌, arith, append_assoc}
use Rattle.std.specs.Prelude.{map, slice_get}
use Rattle.std.proofs.lemmas.List.{append-nil, drop_at, length-map, map-append}
use Rattle.cyc_basics.specs.declared.limits.Limits.{Limits}
use Rattle.cyc_lex.specs.Placed.{Placed}
use Rattle.cyc_lex.specs.Word.{Word, word_of}
use Rattle.cyc_grammar.specs.Syntax.{Reading, ◌>>=◌, all_taken, read_whole}
use Rattle.heap_syntax.specs.declared.version.Version.{Version}
use Rattle.heap_syntax.specs.Versions.{limits}
use Rattle.heap_reader.specs.Trees.{Heading}
use Rattle.heap_reader.specs.Spans.{total}
use Rattle.heap_reader.specs.Flaws.{Found, or_later, listed_flaw}
use Rattle.heap_reader.proofs.WithinSpans.{Before}
use Rattle.proof_syntax.specs.Trees.{Definition, Line, End, Node, File}
use Rattle.proof_syntax.specs.Grammar.{file}
use Rattle.proof_syntax.specs.Left.{Part, First, Nodes as Among, At, Left, left_of, Statement, statement_of, next, join}
use Rattle.proof_syntax.specs.Left.{joined}
use Rattle.proof_syntax.proofs.LeftLaws.{statement-first, statement-fault}
use Rattle.proof_syntax.proofs.Listed.{joined-twice}
use Rattle.proof_file.specs.Flaws.{headings, definition_flaw, program_flaw, node_flaw, first_line, first_node}
use Rattle.proof_file.specs.Flaws.{file_ends_flaw, nodes_flaw, file_flaw}
use Rattle.proof_file.specs.Spans.{definition_span, node_span}
use Rattle.proof_file.specs.Values.{node_value}
use Rattle.proof_file.proofs.WithinSpans.{node_before, file_before}
use Rattle.heap_reader.specs.Told.{item_fault}
use Rattle.file_reader.specs.Outcomes.{Faulty, at_token, syntax_fault, told_flaw, or_else, settled, said_of}
use Rattle.file_reader.specs.Outcomes.{file_outcome}
use Rattle.file_reader.specs.Stages.{Head, Nodes, nodes_fault, said_with, nodes_left, nodes_outcome}
use Rattle.file_reader.specs.Steps.{Takes, Leads, tree_of, Spell, begun_of}
use Rattle.file_reader.proofs.After.{After, node_after}
use Rattle.file_reader.proofs.Tokens.{slice-front, slice-drop, slice-take, syntax-later}
use Rattle.file_reader.proofs.StepLaws.{whole-within, nodes-lawful}

-- ---- a file's words, statement by statement

pub lead-none : Leads [] (At First) (λ x. x)
lead-none more = by (file.read more)
  where
    by : (q : Reading File) → q ≡ joined (λ x. x) q
    by (Ok x) = refl
    by (Err n) = refl

pub lead-more : (p : Part) (ws vs : List Word) (f : Left (At p) → File) (t : Statement p) → Leads ws (At p) f
    → (statement_of p).read vs ≡ Ok (t, []) → Leads (ws ++ vs) (next p t) (λ x. f (join p t x))
lead-more p ws vs f t leads e more =
    ap file.read (append_assoc ws vs more) ∙ leads (vs ++ more)
    ∙ ap (λ (q : Reading (Left (At p))). joined f q) (statement-first p vs more t e)
    ∙ joined-twice f (join p t) ((left_of (next p t)).read more)

pub lead-fault : (p : Part) (ws vs : List Word) (f : Left (At p) → File) (left : ℕ) → Leads ws (At p) f
    → (statement_of p).read vs ≡ Err (suc left) → file.read (ws ++ vs) ≡ Err (suc left)
lead-fault p ws vs f left leads e =
    ap (λ (x : List Word). file.read (ws ++ x)) (sym (append-nil vs)) ∙ leads (vs ++ [])
    ∙ ap (λ (q : Reading (Left (At p))). joined f q) (statement-fault p vs [] left e)
    ∙ ap (λ n. Err (suc n)) (omega arith)

-- ---- flaws of lists

later-again : (a b c d e : Found) → or_later a (or_later b (or_later c (or_later d e)))
    ≡ or_later (or_later a (or_later b (or_later c d))) e
later-again (Some x) b c d e = refl
later-again None (Some x) c d e = refl
later-again None None (Some x) d e = refl
later-again None None None d e = refl

pub one-later : (a b c : Found) → or_later a (or_later b c) ≡ or_later (or_later a b) c
one-later (Some x) b c = refl
one-later None b c = refl

-- the flaws of the first members go before those of the others
pub listed-append : {X : Type 0} (flaw : ℕ → ℕ → X → Found) (span : X → ℕ) (n k : ℕ) (xs ys : List X)
    → listed_flaw flaw span n k (xs ++ ys) ≡ or_later (listed_flaw flaw span n k xs)
    (listed_flaw flaw span (n + length xs) (k + total span xs) ys)
listed-append flaw span n k [] ys = λ i. listed_flaw flaw span (number i) (token i) ys
  where
    number : n ≡ n + 0
    number = omega arith

    token : k ≡ k + 0
    token = omega arith
listed-append flaw span n k (x ∷ xs) ys =
    ap (or_later (flaw n k x)) (listed-append flaw span (suc n) (k + span x) xs ys
    ∙ ap (or_later (listed_flaw flaw span (suc n) (k + span x) xs))
    (λ i. listed_flaw flaw span (number i) (token i) ys))
    ∙ one-later (flaw n k x) (listed_flaw flaw span (suc n) (k + span x) xs)
    (listed_flaw flaw span (n + suc (length xs)) (k + (span x + total span xs)) ys)
  where
    number : suc n + length xs ≡ n + suc (length xs)
    number = omega arith

    token : (k + span x) + total span xs ≡ k + (span x + total span xs)
    token = omega arith

-- ---- where flaws are told

pub told-later : (before : ℕ) (ts : List Placed) (a b : Found)
    → told_flaw before ts (or_later a b) ≡ or_else (told_flaw before ts a) (told_flaw before ts b)
told-later before ts (Some f) b = refl
told-later before ts None b = refl

-- a flaw of the first tokens
pub told-front : (ts us : List Placed) (o : Found) → Before o (length ts) → told_flaw 0 (ts ++ us) o ≡ told_flaw 0 ts o
told-front ts us None h = refl
told-front ts us (Some f) h = ap (λ t. Some (at_token (item_fault f.item) f.token t))
    (slice-front ts us (f.token - 0) (omega (arith, h)))

-- a flaw of the tokens of one part
told-part : (all rest : List Placed) (before span : ℕ) (o : Found) → rest ≡ drop before all → After o before
    → Before o (before + span) → told_flaw 0 all o ≡ told_flaw before (take span rest) o
told-part all rest before span None is lo hi = refl
told-part all rest before span (Some f) is lo hi = ap (λ t. Some (at_token (item_fault f.item) f.token t))
    (sym (here ∙ there ∙ same))
  where
    here : slice_get (take span rest) (f.token - before) ≡ slice_get rest (f.token - before)
    here = slice-take span (f.token - before) rest (omega (arith, lo, hi))

    there : slice_get rest (f.token - before) ≡ slice_get all (before + (f.token - before))
    there = ap (λ (ts : List Placed). slice_get ts (f.token - before)) is ∙ slice-drop before (f.token - before) all

    same : slice_get all (before + (f.token - before)) ≡ slice_get all (f.token - 0)
    same = ap (slice_get all) (omega (arith, lo))

drop-twice : (n k : ℕ) (ts : List Placed) → drop k (drop n ts) ≡ drop (n + k) ts
drop-twice zero k ts = ap (λ m. drop m ts) (omega arith)
drop-twice (suc n) zero [] = ap (λ m. drop m []) (same n)
  where
    same : (m : ℕ) → suc m ≡ suc m + 0
    same m = omega arith
drop-twice (suc n) (suc k) [] = ap (λ m. drop m []) (same n k)
  where
    same : (m j : ℕ) → suc (m + suc j) ≡ suc m + suc j
    same m j = omega arith
drop-twice (suc n) k (t ∷ ts) = drop-twice n k ts ∙ ap (λ m. drop m (t ∷ ts)) (same n)
  where
    same : (m : ℕ) → suc (m + k) ≡ suc m + k
    same m = omega arith

-- the flaws of nodes, each told by its own tokens
told-nodes : (most : Limits) (hs : List Heading) (lines : ℕ) (all : List Placed) (n before : ℕ) (rest : List Placed)
    (xs : List Node) → rest ≡ drop before all → told_flaw 0 all
    (listed_flaw (node_flaw most hs lines) node_span n before xs) ≡ nodes_fault most hs lines n before rest xs
told-nodes most hs lines all n before rest [] is = refl
told-nodes most hs lines all n before rest (x ∷ xs) is =
    told-later 0 all (node_flaw most hs lines n before x)
    (listed_flaw (node_flaw most hs lines) node_span (suc n) (before + node_span x) xs)
    ∙ (λ i. or_else (here i) (told-nodes most hs lines all (suc n) (before + node_span x) (drop (node_span x) rest) xs
    (ap (drop (node_span x)) is ∙ drop-twice before (node_span x) all) i))
  where
    here : told_flaw 0 all (node_flaw most hs lines n before x)
        ≡ told_flaw before (take (node_span x) rest) (node_flaw most hs lines n before x)
    here = told-part all rest before (node_span x) (node_flaw most hs lines n before x) is
        (node_after most hs lines n before x) (node_before most hs lines n before x)

-- ---- the first nodes

-- a file's flaws are those of its front, and then those of its other nodes
pub file-flaws : (v : Version) (ds : List Definition) (ls : List Line) (es : List End) (xs ns : List Node)
    → file_flaw (tree_of v ds ls es (xs ++ ns)) ≡ or_later (file_flaw (tree_of v ds ls es xs))
    (listed_flaw (node_flaw (limits v) (headings ds) (length ls)) node_span (length xs)
    (first_node (tree_of v ds ls es xs) + total node_span xs) ns)
file-flaws v ds ls es xs ns =
    let d = listed_flaw (definition_flaw (limits v) (headings ds)) definition_span 0 4 ds in
    let p = program_flaw (limits v) (first_line (tree_of v ds ls es xs)) ls in
    let e = file_ends_flaw (tree_of v ds ls es xs) in
    let other : ℕ → Found = λ n. listed_flaw (node_flaw (limits v) (headings ds) (length ls)) node_span n
    (first_node (tree_of v ds ls es xs) + total node_span xs) ns in
    let none : 0 + length xs ≡ length xs = omega arith in
    ap (λ (o : Found). or_later d (or_later p (or_later e o))) (listed-append (node_flaw (limits v) (headings ds) (length ls))
    node_span 0 (first_node (tree_of v ds ls es xs)) xs ns)
    ∙ ap (λ (n : ℕ). or_later d (or_later p (or_later e (or_later (nodes_flaw (tree_of v ds ls es xs)) (other n))))) none
    ∙ later-again d p e (nodes_flaw (tree_of v ds ls es xs))
    (listed_flaw (node_flaw (limits v) (headings ds) (length ls)) node_span (length xs)
    (first_node (tree_of v ds ls es xs) + total node_span xs) ns)

begun-ok : (ts us : List Placed) (v : Version) (ds : List Definition) (ls : List Line) (es : List End) (xs ns : List Node)
    → Spell ts v ds ls es xs → file_outcome (ts ++ us) (Ok (tree_of v ds ls es (xs ++ ns)))
    ≡ nodes_outcome (begun_of ts v ds ls es xs) us (Ok ns)
begun-ok ts us v ds ls es xs ns spell = λ i. settled (fault i) (said i)
  where
    front : Found
    front = file_flaw (tree_of v ds ls es xs)

    behind : Found
    behind = listed_flaw (node_flaw (limits v) (headings ds) (length ls)) node_span (length xs) (length ts) ns

    flaws : file_flaw (tree_of v ds ls es (xs ++ ns)) ≡ or_later front behind
    flaws = file-flaws v ds ls es xs ns ∙ ap (λ (k : ℕ). or_later front
        (listed_flaw (node_flaw (limits v) (headings ds) (length ls)) node_span (length xs) k ns))
        (sym spell.size)

    within : Before front (length ts)
    within = subst (λ (k : ℕ). Before front k) (sym spell.size) (file_before (tree_of v ds ls es xs))

    later : told_flaw 0 (ts ++ us) behind ≡ nodes_fault (limits v) (headings ds) (length ls) (length xs)
        (length ts) us ns
    later = told-nodes (limits v) (headings ds) (length ls) (ts ++ us) (length xs) (length ts) us ns
        (sym (drop_at ts us (length ts) refl))

    both : told_flaw 0 (ts ++ us) (or_later front behind)
        ≡ or_else (told_flaw 0 ts front) (nodes_fault (limits v) (headings ds) (length ls) (length xs) (length ts)
        us ns)
    both = told-later 0 (ts ++ us) front behind ∙ (λ i. or_else (told-front ts us front within i) (later i))

    fault : told_flaw 0 (ts ++ us) (file_flaw (tree_of v ds ls es (xs ++ ns)))
        ≡ or_else (told_flaw 0 ts front) (nodes_fault (limits v) (headings ds) (length ls) (length xs) (length ts)
        us ns)
    fault = ap (told_flaw 0 (ts ++ us)) flaws ∙ both

    said : said_of (tree_of v ds ls es (xs ++ ns)) ≡ said_with (begun_of ts v ds ls es xs) ns
    said = ap (λ vs. record (said_of (tree_of v ds ls es xs)) { nodes = vs }) (map-append (node_value (headings ds)) xs ns)

begun-outcome : (ts us : List Placed) (v : Version) (ds : List Definition) (ls : List Line) (es : List End) (xs : List Node)
    (q : Result (List Node) ℕ) → Spell ts v ds ls es xs → ((left : ℕ) → q ≡ Err left → left ≤ length us)
    → file_outcome (ts ++ us) (q >>= λ ns. Ok (tree_of v ds ls es (xs ++ ns)))
    ≡ nodes_outcome (begun_of ts v ds ls es xs) us q
begun-outcome ts us v ds ls es xs (Ok ns) spell within = begun-ok ts us v ds ls es xs ns spell
begun-outcome ts us v ds ls es xs (Err left) spell within = ap (λ f. Faulty f)
    (syntax-later 0 left ts us (within left refl)) ∙ ap (λ n. Faulty (syntax_fault n us left)) (omega arith)

whole-joined : {A B : Type 0} (f : A → B) (q : Reading A)
    → (joined f q >>= λ y. all_taken y.0 y.1) ≡ ((q >>= λ y. all_taken y.0 y.1) >>= λ x. Ok (f x))
whole-joined f (Err n) = refl
whole-joined {A = A} {B = B} f (Ok y) = by y.0 y.1
  where
    by : (x : A) (r : List Word) → all_taken (f x) r ≡ (all_taken x r >>= λ z. Ok (f z))
    by x [] = refl
    by x (d ∷ r) = refl

-- what is kept of the tokens that spell a version, definitions, lines and nodes says the same as they do
pub begun-step : (ts : List Placed) (v : Version) (ds : List Definition) (ls : List Line) (es : List End) (xs : List Node)
    → Spell ts v ds ls es xs → Takes (Head ts) [] (Nodes (begun_of ts v ds ls es xs))
begun-step ts v ds ls es xs spell us =
    ap (λ (ws : List Word). file_outcome (ts ++ us) (read_whole file ws)) (map-append word_of ts us)
    ∙ ap (λ (q : Reading File). file_outcome (ts ++ us) (q >>= λ y. all_taken y.0 y.1)) (spell.leads (map word_of us))
    ∙ ap (file_outcome (ts ++ us)) (whole-joined (λ ns. tree_of v ds ls es (xs ++ ns))
    ((left_of (At Among)).read (map word_of us)))
    ∙ begun-outcome ts us v ds ls es xs (nodes_left false (map word_of us)) spell
    (λ left bad. omega (
      arith,
      whole-within (left_of (At Among)) nodes-lawful (map word_of us) left bad,
      length-map us word_of,
    ))
