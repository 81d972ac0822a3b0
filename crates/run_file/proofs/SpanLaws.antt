-- The spans count the words of the grammar, so each flaw's number is that of the token at which it stands.
use Rattle.std.proofs.Common.{◌≡◌, ℕ, ◌+◌, ◌<◌, ◌≤◌, true, false, List, [], ◌∷◌, ◌++◌, length, refl, ◌∙◌, arith}
use Rattle.std.proofs.Common.{length-append}
use Rattle.general_models.specs.declared.runs.picks.Pick.{Pick}
use Rattle.general_models.specs.declared.runs.picks.Pick.TheVariants.{Cell as CellPicked, Jumps}
use Rattle.cyc_grammar.specs.Syntax.{Class, one, words_many}
use Rattle.cyc_grammar.specs.Classes.{number, the_end}
use Rattle.heap_syntax.specs.Words.{comma, semicolon, closing}
use Rattle.heap_reader.specs.Spans.{total, heap_span}
use Rattle.heap_reader.proofs.SpanLaws.{listed_words, alone}
use Rattle.heap_reader.specs.LineSpans.{line_span}
use Rattle.heap_reader.proofs.LineSpanLaws.{lines_words}
use Rattle.heap_reader.proofs.NumberedEnds.{ends_words_are}
use Rattle.heap_reader.specs.EndSpans.{end_span}
use Rattle.heap_syntax.specs.NumberedEnds.{End, ends}
use Rattle.heap_syntax.specs.DefinitionTrees.{Heap, Definition}
use Rattle.heap_syntax.specs.DefinitionGrammar.{terms, heap, definition, definitions}
use Rattle.heap_reader.specs.DefinitionSpans.{term_span, definition_span}
use Rattle.heap_reader.proofs.DefinitionSpanLaws.{heap_words, definition_words}
use Rattle.proof_syntax.specs.Trees.{Line}
use Rattle.proof_syntax.specs.Grammar.{variable, lines}
use Rattle.proof_file.specs.Spans.{variable_span}
use Rattle.proof_file.proofs.SpanLaws.{variable_words}
use Rattle.model_file.specs.declared.version.ModelVersion.{ModelVersion}
use Rattle.model_file.specs.Versions.{format_of}
use Rattle.model_file.specs.Trees.{Cell}
use Rattle.model_file.specs.Grammar.{heap_word, numbers, values, cell, some_cell, cells1, cells, state}
use Rattle.model_file.specs.Spans.{numbers_span, values_span, cell_span, cells_span}
use Rattle.run_file.specs.declared.tree.Outcome.{Outcome}
use Rattle.run_file.specs.Trees.{Run}
use Rattle.run_file.specs.Grammar.{picks_word, state_claimed, claim, claim_of, pick, some_pick, picks1, picks}
use Rattle.run_file.specs.Grammar.{ending, course, course_of, body, run}
use Rattle.run_file.specs.Spans.{pick_span, picks_span}
use Rattle.run_file.specs.Flaws.{outcome_place}

-- ---- the claim

claim_words : (v : ModelVersion) (ds : List Definition) (ls : List Line) (es : List End) (n : ℕ) (h : Heap)
    → (claim v).fits (ds, (ls, (es, (n, h)))) → length ((claim v).words (ds, (ls, (es, (n, h)))))
    ≡ total definition_span ds + total (line_span variable_span) ls + total (end_span term_span) es
    + (3 + heap_span term_span h)
unfolding claim state_claimed definitions
claim_words v ds ls es n h fit =
    let a = alone (λ w. true) definition definition_span definition_words ds fit.0 in
    let b = lines_words variable variable_span variable_words (format_of v) ls fit.1.0 in
    let g = ends_words_are (format_of v) es fit.1.1.0 in
    let c = heap_words true h fit.1.1.1.1 in
    let e1 = length-append ((heap (terms true)).words h) (semicolon.word tt ∷ []) in
    let last = (ends (format_of v)).words es ++ state_claimed.words (n, h) in
    let e0 = length-append ((ends (format_of v)).words es) (state_claimed.words (n, h)) in
    let e2 = length-append ((lines (format_of v)).words ls) last in
    let e3 = length-append (words_many definition ds) ((lines (format_of v)).words ls ++ last) in
    omega arith

-- ---- the stack and the heap

twice : (ns : List ℕ) → total (λ n. 2) ns ≡ numbers_span ns
twice [] = refl
twice (n ∷ ns) = let r = twice ns in omega arith

numbers_words : (behind : Class (Unit {0})) (ns : List ℕ) → (numbers behind).fits ns
    → length ((numbers behind).words ns) ≡ numbers_span ns
unfolding numbers
numbers_words behind ns f = listed_words 0 comma behind (one number) (λ n. 2) (λ n g. refl) ns f ∙ twice ns

values_words : (ns : List ℕ) → values.fits ns → length (values.words ns) ≡ values_span ns
unfolding values
values_words [] f = refl
values_words (n ∷ ns) f = numbers_words semicolon (n ∷ ns) f.1

cell_words : (c : Cell) → cell.fits c → length (cell.words c) + 1 ≡ cell_span c
unfolding cell
cell_words c f = let r = numbers_words closing c.fields f.1.1 in omega arith

cells_words : (cs : List Cell) → cells.fits cs → length (cells.words cs) ≡ cells_span cs
unfolding cells cells1
cells_words [] f = refl
cells_words (c ∷ cs) f = listed_words some_cell comma semicolon cell cell_span cell_words (c ∷ cs) f.1

state_words : (s : List ℕ) (cs : List Cell) → state.fits (s, cs)
    → length (state.words (s, cs)) ≡ 2 + values_span s + cells_span cs
unfolding state
state_words s cs fit =
    let v = values_words s fit.0 in
    let c = cells_words cs fit.1 in
    let e = length-append (values.words s) (heap_word.word tt ∷ cells.words cs) in
    omega arith

-- ---- picks

pick_words : (p : Pick) → pick.fits p → length (pick.words p) + 1 ≡ pick_span p
unfolding pick
pick_words (CellPicked a vs) f = cell_words (record { address = a; fields = vs }) f.1
pick_words (Jumps true) f = refl
pick_words (Jumps false) f = refl

picks_words : (ps : List Pick) → picks.fits ps → length (picks.words ps) ≡ picks_span ps
unfolding picks picks1
picks_words [] f = refl
picks_words (p ∷ ps) f = listed_words some_pick comma semicolon pick pick_span pick_words (p ∷ ps) f.1

course_words : (v : ModelVersion) (s : List ℕ) (cs : List Cell) (ps : List Pick) (o : Outcome)
    → (course v).fits ((s, cs), (ps, o))
    → 3 + values_span s + cells_span cs + picks_span ps ≤ length ((course v).words ((s, cs), (ps, o)))
unfolding course
course_words v s cs ps o fit =
    let a = state_words s cs fit.0 in
    let b = picks_words ps fit.1.0 in
    let e3 = length-append (picks.words ps) ((ending v).words o) in
    let e4 = length-append (state.words (s, cs)) (picks_word.word tt ∷ (picks.words ps ++ (ending v).words o)) in
    omega arith

-- the words of a run file: the header, the claim, the stack, the heap, the picks, and more
pub run_words : (r : Run) → run.fits r → outcome_place r < length (run.words r)
unfolding run body
run_words r fit =
    let a = claim_words r.version r.definitions r.lines r.ends r.line r.precondition fit.1.1.0 in
    let b = course_words r.version r.stack r.cells r.picks r.outcome fit.1.1.1 in
    let e1 = length-append ((course r.version).words (course_of r)) (semicolon.word tt ∷ []) in
    let e2 = length-append ((claim r.version).words (claim_of r))
    ((course r.version).words (course_of r) ++ semicolon.word tt ∷ []) in
    let e3 = length-append (body.words r) (the_end.word tt ∷ []) in
    omega arith
