-- The texts of the grammar are of lexemes, and the end word stands last.
use Rattle.std.proofs.Common.{◌≡◌, ℕ, true, false, List, refl}
use Rattle.std.specs.Prelude.{codes}
use Rattle.cyc_lex.specs.Word.{is_lexeme}
use Rattle.cyc_lex.proofs.Letters.{letters-name}
use Rattle.cyc_grammar.specs.Syntax.{Class, one}
use Rattle.cyc_grammar.specs.Classes.{number}
use Rattle.cyc_grammar.proofs.Ends.{Inner, EndsLast, seq-inner, after-inner, before-inner, shaped-inner, or_empty-inner}
use Rattle.cyc_grammar.proofs.Ends.{headed-inner, end-once, number-inner}
use Rattle.heap_syntax.specs.Words.{comma, semicolon, arrow, opening, closing, last_word, cyclist_word}
use Rattle.heap_syntax.specs.Grammar.{Any}
use Rattle.heap_syntax.proofs.WordTexts.{last-word, cyclist-word, syms}
use Rattle.heap_syntax.proofs.HeapEnds.{listed-inner}
use Rattle.heap_syntax.specs.DefinitionTrees.{Heap, Definition}
use Rattle.heap_syntax.specs.DefinitionGrammar.{terms, heap, definitions}
use Rattle.heap_syntax.proofs.DefinitionEnds.{heap-of, definitions-inner}
use Rattle.model_file.specs.Trees.{Cell}
use Rattle.cyc_lex.specs.Word.{is_number_text}
use Rattle.model_file.specs.declared.version.ModelVersion.{ModelVersion}
use Rattle.model_file.specs.declared.version.ModelVersion.TheVariants.{One, Three}
use Rattle.model_file.specs.Versions.{model_version}
use Rattle.model_file.specs.Grammar.{model_word, stack_word, heap_word, ask_word, numbers, values, to_cell, from_cell}
use Rattle.model_file.specs.Grammar.{cell, some_cell, cells1, cells, question, state, to_model, from_model, contents}
use Rattle.model_file.specs.Grammar.{body, model}

model-word : is_lexeme (model_word.word tt) ≡ true
model-word = letters-name (codes "model") refl

stack-word : is_lexeme (stack_word.word tt) ≡ true
stack-word = letters-name (codes "stack") refl

heap-word : is_lexeme (heap_word.word tt) ≡ true
heap-word = letters-name (codes "heap") refl

ask-word : is_lexeme (ask_word.word tt) ≡ true
ask-word = letters-name (codes "ask") refl

numbers-inner : (behind : Class (Unit {0})) → is_lexeme (behind.word tt) ≡ true → Inner (numbers behind)
unfolding numbers
numbers-inner behind h = listed-inner 0 comma behind (one number) syms.comma_word h number-inner

values-inner : Inner values
unfolding values
values-inner = or_empty-inner semicolon _ syms.semicolon_word (numbers-inner semicolon syms.semicolon_word)

cell-inner : Inner cell
unfolding cell
cell-inner = shaped-inner {A = ℕ × List ℕ} to_cell from_cell Any _
    (seq-inner (one number) _ number-inner (after-inner arrow _ syms.arrow_word
    (after-inner opening _ syms.opening_word (numbers-inner closing syms.closing_word))))

cells-inner : Inner cells
unfolding cells cells1
cells-inner = or_empty-inner semicolon _ syms.semicolon_word
    (listed-inner some_cell comma semicolon cell syms.comma_word syms.semicolon_word cell-inner)

state-inner : Inner state
unfolding state
state-inner = after-inner stack_word _ stack-word (seq-inner values _ values-inner
    (after-inner heap_word _ heap-word cells-inner))

question-inner : Inner question
unfolding question
question-inner = after-inner ask_word _ ask-word (before-inner _ last_word last-word
    (before-inner (heap (terms false)) semicolon syms.semicolon_word (heap-of false)))

pub version-word : (v : ModelVersion) → model_version.fits v → is_lexeme (model_version.word v) ≡ true
unfolding is_number_text
version-word One f = refl
version-word Three f = refl

contents-inner : (v : ModelVersion) → Inner (contents v)
contents-inner v =
    after-inner semicolon _ syms.semicolon_word (seq-inner definitions _ definitions-inner
    (seq-inner state _ state-inner (before-inner question semicolon syms.semicolon_word question-inner)))

pub body-inner : Inner body
unfolding body
body-inner = shaped-inner {A = (v : ModelVersion) × (List Definition × ((List ℕ × List Cell) × Heap))}
    to_model from_model Any _ (after-inner cyclist_word _ cyclist-word (after-inner model_word _ model-word
    (headed-inner model_version contents version-word contents-inner)))

pub model-last : EndsLast model
unfolding model
model-last = end-once body body-inner
