-- The spans count the words of the grammar, so each flaw's number is that of the token at which it stands.
use Rattle.std.proofs.Common.{◌≡◌, ℕ, ◌+◌, ◌<◌, true, false, List, [], ◌∷◌, ◌++◌, length, refl, arith, length-append}
use Rattle.heap_formula.specs.Words.{Each}
use Rattle.cyc_grammar.specs.Classes.{the_end}
use Rattle.cyc_grammar.specs.Syntax.{words_many, fits_many, list1}
use Rattle.heap_syntax.specs.Grammar as shared
use Rattle.heap_reader.specs.Spans.{total, total_or, premises_rest}
use Rattle.heap_reader.specs.LineSpans.{line_span}
use Rattle.heap_reader.proofs.SpanLaws.{between, alone}
use Rattle.heap_reader.proofs.LineSpanLaws.{lines_words}
use Rattle.heap_reader.proofs.DefinitionSpanLaws.{uterm_words, heap_words, heaps_words, definition_words}
use Rattle.proof_syntax.specs.declared.tree.PairTree.{PairTree}
use Rattle.proof_syntax.specs.Trees.{Entailment, Judgement, Entails, From, LinkData, Reason, Absurd, Rewrite, Split}
use Rattle.proof_syntax.specs.Trees.{Distinct, Weaken, Unfold, Cut, Done, Choose, PureRight, Instantiate, Frame}
use Rattle.proof_syntax.specs.Trees.{UnfoldRight, Exec, Drop, Link, Node, File}
use Rattle.proof_syntax.specs.Grammar.{uterm, terms, heap, heaps, definition, variable, lines, disjuncts, entailment}
use Rattle.proof_syntax.specs.Grammar.{state, judgement, numbers, bracketed, two_numbers, side, rewrite, split, cut}
use Rattle.proof_syntax.specs.Grammar.{instantiate, pair, pairs1, pairs, link, parts, reason, premises, node}
use Rattle.proof_syntax.specs.Grammar.{definitions, more_nodes, nodes, body, file, some_pair, comma, closing_bracket}
use Rattle.proof_syntax.specs.Grammar.{closing_brace, semicolon, or_word, by_word, last_word, turnstile}
use Rattle.proof_file.proofs.Fitting.{HasDisjunct}
use Rattle.heap_syntax.specs.NumberedEnds.{ends}
use Rattle.heap_reader.specs.EndSpans.{end_span}
use Rattle.heap_reader.proofs.EndFitting.{HasDisjunct as EndHasDisjunct}
use Rattle.heap_reader.proofs.NumberedEnds.{numbered_ends_some, ends_words_are}
use Rattle.proof_file.specs.Spans.{term_span, variable_span, definition_span, entailment_span, judgement_span}
use Rattle.proof_file.specs.Spans.{pair_span}
use Rattle.proof_file.specs.Spans.{link_span, reason_span, node_span}

-- ---- lists

numbers_words : (ns : List ℕ) → length (numbers.words ns) ≡ length ns
unfolding numbers
numbers_words [] = refl
numbers_words (n ∷ ns) = let r = numbers_words ns in omega arith

-- ---- judgements

entailment_words : (e : Entailment) → entailment.fits e → length (entailment.words e) ≡ entailment_span e
unfolding entailment disjuncts
entailment_words e f =
    let a = heap_words true e.antecedent f.1.0 in
    let d = heaps_words or_word by_word e.disjuncts f.1.1 in
    let l = length-append ((heap (terms true)).words e.antecedent)
    (turnstile.word tt ∷ (heaps or_word by_word).words e.disjuncts) in
    omega arith

judgement_words : (j : Judgement) → judgement.fits j → length (judgement.words j) ≡ judgement_span j
unfolding judgement state
judgement_words (Entails e) f = entailment_words e f.1
judgement_words (From n h) f =
    let a = heap_words true h f.1.1 in
    let l = length-append ((heap (terms true)).words h) (by_word.word tt ∷ []) in
    omega arith

-- ---- lines

pub variable_words : (n : ℕ) → variable.fits n → length (variable.words n) + 1 ≡ variable_span n
unfolding variable
variable_words n f = refl

-- ---- reasons

bracketed_words : (ns : List ℕ) → length (bracketed.words ns) ≡ 2 + length ns
unfolding bracketed
bracketed_words ns =
    let n = numbers_words ns in
    let l = length-append (numbers.words ns) (closing_bracket.word tt ∷ []) in
    omega arith

pair_words : (p : PairTree) → pair.fits p → length (pair.words p) + 1 ≡ pair_span p
unfolding pair
pair_words p f = let t = uterm_words p.value f.1.1 in omega arith

pairs_words : (ps : List PairTree) → pairs.fits ps → length (pairs.words ps) ≡ total_or 1 pair_span ps
unfolding pairs pairs1
pairs_words [] f = refl
pairs_words (p ∷ ps) f =
    let r = between some_pair comma pair pair_span pair_words (p ∷ ps) f.1 in
    let l = length-append ((list1 some_pair comma pair).words (p ∷ ps)) (closing_brace.word tt ∷ []) in
    omega arith

link_words : (l : LinkData) → link.fits l → length (link.words l) + 2 ≡ link_span l
unfolding link
link_words l f =
    let p = pairs_words l.substitution f.1.1.0 in
    let m = bracketed_words l.mapped in
    let d = bracketed_words l.disjuncts in
    let a = length-append (bracketed.words l.mapped) (bracketed.words l.disjuncts) in
    let b = length-append (pairs.words l.substitution) (bracketed.words l.mapped ++ bracketed.words l.disjuncts) in
    omega arith

reason_words : (r : Reason) → reason.fits r → length (reason.words r) + 1 ≡ reason_span r
unfolding reason parts rewrite split two_numbers cut instantiate side
reason_words Absurd f = refl
reason_words (Rewrite k s) f = refl
reason_words (Split t u) f =
    let a = uterm_words t f.1.1.0 in
    let b = uterm_words u f.1.1.1 in
    let l = length-append (uterm.words t) (uterm.words u) in
    omega arith
reason_words (Distinct i j) f = refl
reason_words (Weaken k) f = refl
reason_words (Unfold k) f = refl
reason_words (Cut places formula) f =
    let p = bracketed_words places in
    let h = heap_words false formula f.1.1.1 in
    let l = length-append (bracketed.words places) ((heap (terms false)).words formula) in
    omega arith
reason_words Done f = refl
reason_words (Choose j) f = refl
reason_words (PureRight k) f = refl
reason_words (Instantiate v t) f = let a = uterm_words t f.1.1.1 in omega arith
reason_words (Frame i j) f = refl
reason_words (UnfoldRight j c) f = refl
reason_words Exec f = refl
reason_words (Drop k) f = refl
reason_words (Link l) f = let a = link_words l f.1.1 in omega arith

-- ---- nodes and files

premises_words : (ns : List ℕ) → length (premises.words ns) ≡ 1 + premises_rest ns
unfolding premises
premises_words [] = refl
premises_words (n ∷ ns) =
    let r = numbers_words ns in
    let l = length-append (numbers.words ns) (semicolon.word tt ∷ []) in
    omega arith

pub node_words : (n : Node) → node.fits n → length (node.words n) ≡ node_span n
unfolding node
node_words n f =
    let j = judgement_words n.judgement f.1.0 in
    let r = reason_words n.reason f.1.1.0 in
    let p = premises_words n.premises in
    let a = length-append (reason.words n.reason) (premises.words n.premises) in
    let b = length-append (judgement.words n.judgement) (reason.words n.reason ++ premises.words n.premises) in
    omega arith

nodes_words : (ns : List Node) → nodes.fits ns → length (nodes.words ns) ≡ total node_span ns + 1
unfolding nodes more_nodes
nodes_words [] f = absurd (omega (arith, f.0))
nodes_words (n ∷ ns) f =
    let one = node_words n f.1.0 in
    let rest = alone (λ w. true) node node_span node_words ns f.1.1 in
    let l = length-append (words_many node ns) (last_word.word tt ∷ []) in
    let k = length-append (node.words n) (words_many node ns ++ last_word.word tt ∷ []) in
    omega arith

-- the words of a file: the header, the definitions, the lines, the ends, the nodes, the last statement, and the end
pub file_words : (f : File) → file.fits f → length (file.words f)
    ≡ 4 + total definition_span f.definitions + total (line_span variable_span) f.lines
    + total (end_span term_span) f.ends + total node_span f.nodes + 3
unfolding file body definitions
file_words f fit =
    let d = alone (λ w. true) definition definition_span definition_words f.definitions fit.1.1.0 in
    let l = lines_words variable variable_span variable_words f.version f.lines fit.1.1.1.0 in
    let g = ends_words_are f.version f.ends fit.1.1.1.1.0 in
    let n = nodes_words f.nodes fit.1.1.1.1.1 in
    let last = nodes.words f.nodes ++ semicolon.word tt ∷ [] in
    let a = length-append (nodes.words f.nodes) (semicolon.word tt ∷ []) in
    let h = length-append ((ends f.version).words f.ends) last in
    let e = length-append ((lines f.version).words f.lines) ((ends f.version).words f.ends ++ last) in
    let b = length-append (words_many definition f.definitions)
    ((lines f.version).words f.lines ++ ((ends f.version).words f.ends ++ last)) in
    let c = length-append (body.words f) (the_end.word tt ∷ []) in
    omega arith

-- each entailment has a disjunct
some_disjunct : (j : Judgement) → judgement.fits j → HasDisjunct j
unfolding judgement entailment disjuncts shared.listed
some_disjunct (Entails e) f = f.1.1.1.0
some_disjunct (From n h) f = tt

pub node_some : (n : Node) → node.fits n → HasDisjunct n.judgement
unfolding node
node_some n f = some_disjunct n.judgement f.1.0

many_some : (ns : List Node) → fits_many node ns → Each (λ (n : Node). HasDisjunct n.judgement) ns
many_some [] f = tt
many_some (n ∷ ns) f = (node_some n f.0, many_some ns f.1)

list_some : (ns : List Node) → nodes.fits ns → Each (λ (n : Node). HasDisjunct n.judgement) ns
unfolding nodes more_nodes
list_some [] g = absurd (omega (arith, g.0))
list_some (n ∷ ns) g = many_some (n ∷ ns) (g.1.0, g.1.1)

pub nodes_some : (f : File) → file.fits f → Each (λ (n : Node). HasDisjunct n.judgement) f.nodes
unfolding file body
nodes_some f fit = list_some f.nodes fit.1.1.1.1.1

pub front_fits : (f : File) → file.fits f → (ends f.version).fits f.ends
unfolding file body
front_fits f fit = fit.1.1.1.1.0

pub file_ends_some : (f : File) → file.fits f → Each EndHasDisjunct f.ends
file_ends_some f fit = numbered_ends_some f.version f.ends (front_fits f fit)

pub file_some : (f : File) → file.fits f → 0 < length f.nodes
unfolding file body nodes
file_some f fit = fit.1.1.1.1.1.0
