-- The spans count the words of the grammar, so each flaw's number is that of the token at which it stands.
use Rattle.std.proofs.Common.{◌≡◌, ℕ, ◌+◌, true, false, List, [], ◌∷◌, ◌++◌, length, refl, ◌∙◌, arith, length-append}
use Rattle.cyc_grammar.specs.Syntax.{Class, one, words_many}
use Rattle.cyc_grammar.specs.Classes.{number, the_end}
use Rattle.heap_syntax.specs.Words.{comma, semicolon, closing, last_word}
use Rattle.heap_reader.specs.Spans.{total, heap_span}
use Rattle.heap_reader.proofs.SpanLaws.{listed_words, alone}
use Rattle.heap_syntax.specs.DefinitionGrammar.{terms, heap, definition, definitions}
use Rattle.heap_reader.specs.DefinitionSpans.{term_span, definition_span}
use Rattle.heap_reader.proofs.DefinitionSpanLaws.{heap_words, definition_words}
use Rattle.model_file.specs.Trees.{Cell, Model}
use Rattle.model_file.specs.Grammar.{heap_word, ask_word, numbers, values, cell, some_cell, cells1, cells, question}
use Rattle.model_file.specs.Grammar.{state, body, model}
use Rattle.model_file.specs.Spans.{numbers_span, values_span, cell_span, cells_span}
use Rattle.model_file.specs.Flaws.{first_atom}

twice : (ns : List ℕ) → total (λ n. 2) ns ≡ numbers_span ns
twice [] = refl
twice (n ∷ ns) = let r = twice ns in omega arith

numbers_words : (behind : Class (Unit {0})) (ns : List ℕ) → (numbers behind).fits ns
    → length ((numbers behind).words ns) ≡ numbers_span ns
unfolding numbers
numbers_words behind ns f = listed_words 0 comma behind (one number) (λ n. 2) (λ n g. refl) ns f ∙ twice ns

values_words : (ns : List ℕ) → values.fits ns → length (values.words ns) ≡ values_span ns
unfolding values
values_words [] f = refl
values_words (n ∷ ns) f = numbers_words semicolon (n ∷ ns) f.1

cell_words : (c : Cell) → cell.fits c → length (cell.words c) + 1 ≡ cell_span c
unfolding cell
cell_words c f = let r = numbers_words closing c.fields f.1.1 in omega arith

cells_words : (cs : List Cell) → cells.fits cs → length (cells.words cs) ≡ cells_span cs
unfolding cells cells1
cells_words [] f = refl
cells_words (c ∷ cs) f = listed_words some_cell comma semicolon cell cell_span cell_words (c ∷ cs) f.1

-- the words of a model file: the header, the definitions, the stack, the heap, the formula, the last statement, and the
-- end
pub model_words : (m : Model) → model.fits m → length (model.words m) ≡ first_atom m + heap_span term_span m.ask + 3
unfolding model body state question definitions
model_words m fit =
    let ds = words_many definition m.definitions in
    let vs = values.words m.stack in
    let cs = cells.words m.cells in
    let ask = (heap (terms false)).words m.ask in
    let d = alone (λ w. true) definition definition_span definition_words m.definitions fit.1.1.0 in
    let v = values_words m.stack fit.1.1.1.0.0 in
    let c = cells_words m.cells fit.1.1.1.0.1 in
    let h = heap_words false m.ask fit.1.1.1.1 in
    let asked = ask_word.word tt ∷ ((ask ++ semicolon.word tt ∷ []) ++ last_word.word tt ∷ []) in
    let given = vs ++ (heap_word.word tt ∷ cs) in
    let e1 = length-append ask (semicolon.word tt ∷ []) in
    let e2 = length-append (ask ++ semicolon.word tt ∷ []) (last_word.word tt ∷ []) in
    let e3 = length-append asked (semicolon.word tt ∷ []) in
    let e4 = length-append vs (heap_word.word tt ∷ cs) in
    let e5 = length-append given (asked ++ semicolon.word tt ∷ []) in
    let e6 = length-append ds (state.words (m.stack, m.cells) ++ (asked ++ semicolon.word tt ∷ [])) in
    let e7 = length-append (body.words m) (the_end.word tt ∷ []) in
    omega arith
