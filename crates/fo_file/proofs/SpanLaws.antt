-- The spans count the words of the grammar, so each flaw's number is that of the token at which it stands.
use Rattle.std.proofs.Common.{◌≡◌, ℕ, ◌+◌, Bool, true, false, List, [], ◌∷◌, ◌++◌, length, length-append, suc, refl, ap}
use Rattle.std.proofs.Common.{arith}
use Rattle.cyc_grammar.specs.Syntax.{Syntax, Class, is_one, before, or_empty, words_many}
use Rattle.cyc_grammar.specs.Classes.{the_end}
use Rattle.heap_syntax.specs.Words.{true_word, pred_word, last_word, comma, equal, semicolon, bar, turnstile}
use Rattle.heap_syntax.specs.Words.{closing_brace, node_word, by_word, closing_bracket}
use Rattle.heap_reader.specs.Spans.{total, total_or, premises_rest}
use Rattle.heap_reader.proofs.SpanLaws.{between, alone}
use Rattle.fo_syntax.specs.Words.{false_word}
use Rattle.fo_syntax.specs.Trees.{Sign, Variable, Local, Apply, Atom, Equation, Predicate}
use Rattle.fo_syntax.specs.Grammar.{application, leaf, term, atom}
use Rattle.fo_syntax.proofs.PlaceLaws.{term-tokens}
use Rattle.fo_syntax.specs.Lists.{list_of}
use Rattle.fo_syntax.specs.ProblemTrees.{Constructor, Definition, Sequent, Problem}
use Rattle.fo_syntax.specs.ProblemWords.{con_word}
use Rattle.fo_syntax.specs.ProblemGrammar.{atoms, atoms_or, left, right, con, cases, definition, constructors}
use Rattle.fo_syntax.specs.ProblemGrammar.{definitions, sequent, goal, problem_body, problem}
use Rattle.fo_syntax.specs.ProofTrees.{Entry, LinkData, Reason, Axiom, Refl, Clash, Decompose, Replace, WeakenLeft}
use Rattle.fo_syntax.specs.ProofTrees.{WeakenRight, Contract, Unfold, Cut, Right, Link, Node, File}
use Rattle.fo_syntax.specs.ProofGrammar.{numbers, bracketed, two_numbers, replace, terms, right_rule, entry, entries}
use Rattle.fo_syntax.specs.ProofGrammar.{link, parts, reason, premises, node, nodes, body, file}
use Rattle.fo_file.specs.AtomSpans.{atom_span, atoms_span}
use Rattle.fo_file.proofs.Walks.{one-term}
use Rattle.fo_file.specs.Spans.{constructor_span, definition_span, sequent_span, term_span, entry_span, link_span}
use Rattle.fo_file.specs.Spans.{reason_span, node_span, file_end, problem_end}

-- members with a word between neighbours
listed : {A : Type 0} (c : Class (Unit {0})) (a : Syntax A) (span : A → ℕ)
    → ((x : A) → a.fits x → length (a.words x) + 1 ≡ span x) → (xs : List A) → (list_of c a).fits xs
    → length ((list_of c a).words xs) + 1 ≡ total span xs
listed c a span one [] f = absurd (omega (arith, f.0))
listed c a span one (x ∷ xs) f = between x c a span one (x ∷ xs) f

-- the same with a word after the last, or that word alone
listed_or : {A : Type 0} (c behind : Class (Unit {0})) (a : Syntax A) (span : A → ℕ)
    → ((x : A) → a.fits x → length (a.words x) + 1 ≡ span x) → (xs : List A)
    → (or_empty behind (before (list_of c a) behind)).fits xs
    → length ((or_empty behind (before (list_of c a) behind)).words xs) ≡ total_or 1 span xs
listed_or c behind a span one [] f = refl
listed_or c behind a span one (x ∷ xs) f =
    omega (arith, listed c a span one (x ∷ xs) f.1, length-append ((list_of c a).words (x ∷ xs)) (behind.word tt ∷ []))

term_words : (b : Bool) (t : List Sign) → (term b).fits t → length ((term b).words t) + 1 ≡ term_span t
term_words b t f = omega (arith, term-tokens b t f)

atom_words : (b : Bool) (a : Atom) → (atom b).fits a → length ((atom b).words a) + 1 ≡ atom_span a
unfolding atom term application
atom_words b (Equation [] u) f = absurd f.0
atom_words b (Equation (Variable n ∷ ss) u) f =
    omega (
      arith,
      term-tokens b (Variable n ∷ ss) (f.0, f.1.0),
      term-tokens b u f.1.1,
      length-append ((leaf b).words (Variable n)) (equal.word tt ∷ (term b).words u),
    )
atom_words b (Equation (Local n ∷ ss) u) f =
    omega (
      arith,
      term-tokens b (Local n ∷ ss) (f.0, f.1.0),
      term-tokens b u f.1.1,
      length-append ((leaf b).words (Local n)) (equal.word tt ∷ (term b).words u),
    )
atom_words b (Equation (Apply name n ∷ ss) u) f =
    omega (
      arith,
      term-tokens b (Apply name n ∷ ss) (f.0, f.1.0),
      term-tokens b u f.1.1,
      length-append ((application b).words (Apply name n ∷ ss)) (equal.word tt ∷ (term b).words u),
    )
atom_words b (Predicate []) f = absurd f.1.0.0
atom_words b (Predicate (Variable n ∷ ss)) f = absurd f.1.0.0
atom_words b (Predicate (Local n ∷ ss)) f = absurd f.1.0.0
atom_words b (Predicate (Apply name n ∷ ss)) f =
    omega (
      arith,
      term-tokens b (Apply name n ∷ ss) (one-term name n ss f.1.0.0, f.1.0),
      length-append ((application b).words (Apply name n ∷ ss)) [],
    )

side_words : (none : Class (Unit {0})) (b : Bool) (xs : List Atom) → (atoms_or none b).fits xs
    → length ((atoms_or none b).words xs) + 1 ≡ atoms_span xs
unfolding atoms_or atoms
side_words none b [] f = refl
side_words none b (a ∷ more) f = listed comma (atom b) atom_span (atom_words b) (a ∷ more) f.1

-- ---- theories

constructor_words : (c : Constructor) → con.fits c → length (con.words c) ≡ constructor_span c
unfolding con
constructor_words c f = refl

definition_words : (d : Definition) → definition.fits d → length (definition.words d) ≡ definition_span d
unfolding definition cases
definition_words d f =
    let bodies = (list_of bar (left true)).words d.cases in
    omega (
      arith,
      listed bar (left true) atoms_span (side_words true_word true) d.cases f.1.1.1,
      length-append bodies (closing_brace.word tt ∷ []),
      length-append (bodies ++ closing_brace.word tt ∷ [])
          (semicolon.word tt ∷ []),
    )

constructors_words : (cs : List Constructor) → constructors.fits cs
    → length (constructors.words cs) ≡ total constructor_span cs
unfolding constructors
constructors_words [] f = absurd (omega (arith, f.0))
constructors_words (c ∷ cs) f = alone (is_one con_word) con constructor_span constructor_words (c ∷ cs) f.1

definitions_words : (ds : List Definition) → definitions.fits ds
    → length (definitions.words ds) ≡ total definition_span ds
unfolding definitions
definitions_words ds f = alone (is_one pred_word) definition definition_span definition_words ds f

sequent_words : (s : Sequent) → sequent.fits s → length (sequent.words s) + 1 ≡ sequent_span s
unfolding sequent
sequent_words s f =
    omega (
      arith,
      side_words true_word false s.left f.1.0,
      side_words false_word false s.right f.1.1,
      length-append ((left false).words s.left) (turnstile.word tt ∷ right.words s.right),
    )

-- ---- reasons

numbers_words : (ns : List ℕ) → length (numbers.words ns) ≡ length ns
unfolding numbers
numbers_words [] = refl
numbers_words (n ∷ ns) = ap suc (numbers_words ns)

bracketed_words : (ns : List ℕ) → length (bracketed.words ns) ≡ 1 + length ns + 1
unfolding bracketed
bracketed_words ns = omega (arith, numbers_words ns, length-append (numbers.words ns) (closing_bracket.word tt ∷ []))

terms_words : (ts : List (List Sign)) → terms.fits ts → length (terms.words ts) ≡ total_or 1 term_span ts
unfolding terms
terms_words ts f = listed_or comma closing_bracket (term false) term_span (term_words false) ts f

entry_words : (e : Entry) → entry.fits e → length (entry.words e) + 1 ≡ entry_span e
unfolding entry
entry_words e f = omega (arith, term_words false e.value f.1.1)

entries_words : (es : List Entry) → entries.fits es → length (entries.words es) ≡ total_or 1 entry_span es
unfolding entries
entries_words es f = listed_or comma closing_brace entry entry_span entry_words es f

link_words : (l : LinkData) → link.fits l → length (link.words l) ≡ link_span l
unfolding link
link_words l f =
    omega (
      arith,
      entries_words l.substitution f.1.1.0,
      bracketed_words l.left,
      bracketed_words l.right,
      length-append (bracketed.words l.left) (bracketed.words l.right),
      length-append (entries.words l.substitution) (bracketed.words l.left ++ bracketed.words l.right),
    )

reason_words : (r : Reason) → reason.fits r → length (reason.words r) + 1 ≡ reason_span r
unfolding reason parts two_numbers replace right_rule
reason_words (Axiom i j) f = refl
reason_words (Refl j) f = refl
reason_words (Clash i) f = refl
reason_words (Decompose i) f = refl
reason_words (Replace i side) f = refl
reason_words (WeakenLeft i) f = refl
reason_words (WeakenRight j) f = refl
reason_words (Contract i) f = refl
reason_words (Unfold i) f = refl
reason_words (Cut a) f = omega (arith, atom_words false a f.1.1)
reason_words (Right j k ts) f = omega (arith, terms_words ts f.1.1.1.1)
reason_words (Link l) f = omega (arith, link_words l f.1.1)

-- ---- nodes and texts

premises_words : (ns : List ℕ) → length (premises.words ns) ≡ premises_rest ns + 1
unfolding premises
premises_words [] = refl
premises_words (n ∷ ns) = omega (arith, numbers_words ns, length-append (numbers.words ns) (semicolon.word tt ∷ []))

node_words : (n : Node) → node.fits n → length (node.words n) ≡ node_span n
unfolding node
node_words n f =
    let behind = reason.words n.reason ++ premises.words n.premises in
    omega (
      arith,
      sequent_words n.sequent f.1.0,
      reason_words n.reason f.1.1.0,
      premises_words n.premises,
      length-append (reason.words n.reason) (premises.words n.premises),
      length-append (sequent.words n.sequent) (by_word.word tt ∷ behind),
    )

-- the last word too
nodes_words : (ns : List Node) → nodes.fits ns → length (nodes.words ns) ≡ total node_span ns + 1
unfolding nodes
nodes_words [] f = absurd (omega (arith, f.0))
nodes_words (n ∷ ns) f =
    let more = words_many node ns in
    omega (
      arith,
      node_words n f.1.0,
      alone (is_one node_word) node node_span node_words ns f.1.1,
      length-append more (last_word.word tt ∷ []),
      length-append (node.words n) (more ++ last_word.word tt ∷ []),
    )

-- after the nodes stand the last statement and the end
pub file_words : (f : File) → file.fits f → length (file.words f) ≡ file_end f + 3
unfolding file body
file_words f fits =
    let cs = constructors.words f.constructors in
    let ds = definitions.words f.definitions in
    let ns = nodes.words f.nodes in
    omega (
      arith,
      constructors_words f.constructors fits.1.0,
      definitions_words f.definitions fits.1.1.0,
      nodes_words f.nodes fits.1.1.1,
      length-append ns (semicolon.word tt ∷ []),
      length-append ds (ns ++ semicolon.word tt ∷ []),
      length-append cs (ds ++ (ns ++ semicolon.word tt ∷ [])),
      length-append (body.words f) (the_end.word tt ∷ []),
    )

-- after the goal stand the last statement and the end
pub problem_words : (p : Problem) → problem.fits p → length (problem.words p) ≡ problem_end p + 3
unfolding problem problem_body goal
problem_words p fits =
    let cs = constructors.words p.constructors in
    let ds = definitions.words p.definitions in
    let asked = sequent.words p.goal in
    let e1 = length-append asked (semicolon.word tt ∷ []) in
    let e2 = length-append (asked ++ semicolon.word tt ∷ []) (last_word.word tt ∷ []) in
    let e3 = length-append ((asked ++ semicolon.word tt ∷ []) ++ last_word.word tt ∷ []) (semicolon.word tt ∷ []) in
    omega (
      arith,
      constructors_words p.constructors fits.1.0,
      definitions_words p.definitions fits.1.1.0,
      sequent_words p.goal fits.1.1.1,
      e1,
      e2,
      e3,
      length-append ds (goal.words p.goal),
      length-append cs (ds ++ goal.words p.goal),
      length-append (problem_body.words p) (the_end.word tt ∷ []),
    )
