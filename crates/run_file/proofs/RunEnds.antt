-- The texts of the grammar are of lexemes, and the end word stands last.
use Rattle.std.proofs.Common.{◌≡◌, ℕ, Bool, true, false, List, refl, inr, ◌⊎◌}
use Rattle.std.specs.Prelude.{codes}
use Rattle.cyc_lex.specs.Word.{is_lexeme}
use Rattle.cyc_lex.proofs.Letters.{letters-name}
use Rattle.cyc_grammar.specs.Syntax.{Class, one, is_one}
use Rattle.cyc_grammar.specs.Classes.{number}
use Rattle.cyc_grammar.proofs.Ends.{Inner, EndsLast, one-inner, seq-inner, alt-inner, after-inner, before-inner}
use Rattle.cyc_grammar.proofs.Ends.{shaped-inner, headed-inner, or_empty-inner, end-once, number-inner}
use Rattle.heap_syntax.specs.Words.{from_word, given_word, comma, semicolon, arrow, opening, closing, last_word}
use Rattle.heap_syntax.specs.Words.{cyclist_word, dollar}
use Rattle.heap_syntax.specs.Grammar.{Any}
use Rattle.heap_syntax.proofs.WordTexts.{from-word, given-word, last-word, cyclist-word, syms}
use Rattle.heap_syntax.proofs.HeapEnds.{listed-inner}
use Rattle.heap_syntax.specs.DefinitionGrammar.{terms, heap, definitions}
use Rattle.heap_syntax.proofs.DefinitionEnds.{heap-of, definitions-inner}
use Rattle.heap_syntax.specs.LineGrammar.{line_word}
use Rattle.heap_syntax.proofs.CommandLaws.{lines-inner}
use Rattle.proof_syntax.specs.Grammar.{variable, lines}
use Rattle.heap_syntax.specs.NumberedEnds.{ends}
use Rattle.heap_syntax.proofs.NumberedEndLaws.{ends-inner}
use Rattle.model_file.specs.declared.version.ModelVersion.{ModelVersion}
use Rattle.model_file.specs.Versions.{format_of, model_version}
use Rattle.model_file.proofs.ModelEnds.{version-word}
use Rattle.model_file.specs.Trees.{Cell}
use Rattle.model_file.specs.Grammar.{stack_word, heap_word, numbers, values, to_cell, from_cell, cell, some_cell}
use Rattle.model_file.specs.Grammar.{cells1, cells, state}
use Rattle.run_file.specs.Grammar.{run_word, picks_word, jump_word, next_word, faults_word, repeats_word, step_word}
use Rattle.run_file.specs.Grammar.{state_claimed, claim, to_pick, from_pick, pick, some_pick, picks1, picks, then_step}
use Rattle.run_file.specs.Grammar.{faulting, repeating, to_outcome, from_outcome, outcome, ending, course, Parts}
use Rattle.run_file.specs.Grammar.{contents}
use Rattle.run_file.specs.Grammar.{to_run, from_run, body, run, grows_word, with_word, to_pair, from_pair, value_pair}
use Rattle.run_file.specs.Grammar.{some_pair, value_pairs, to_growth, from_growth, growing, breaks_word, breaking}
use Rattle.run_file.specs.Grammar.{has_breaks, IsGrowing, the_growth, breaking_or_growing, Ends}
use Rattle.general_models.specs.declared.runs.growth.Growth.{Growth}
use Rattle.general_models.specs.declared.runs.growth.ValuePair.{ValuePair}

run-word : is_lexeme (run_word.word tt) ≡ true
run-word = letters-name (codes "run") refl

stack-word : is_lexeme (stack_word.word tt) ≡ true
stack-word = letters-name (codes "stack") refl

heap-word : is_lexeme (heap_word.word tt) ≡ true
heap-word = letters-name (codes "heap") refl

picks-word : is_lexeme (picks_word.word tt) ≡ true
picks-word = letters-name (codes "picks") refl

jump-word : is_lexeme (jump_word.word tt) ≡ true
jump-word = letters-name (codes "jump") refl

next-word : is_lexeme (next_word.word tt) ≡ true
next-word = letters-name (codes "next") refl

faults-word : is_lexeme (faults_word.word tt) ≡ true
faults-word = letters-name (codes "faults") refl

repeats-word : is_lexeme (repeats_word.word tt) ≡ true
repeats-word = letters-name (codes "repeats") refl

breaks-word : is_lexeme (breaks_word.word tt) ≡ true
breaks-word = letters-name (codes "breaks") refl

step-word : is_lexeme (step_word.word tt) ≡ true
step-word = letters-name (codes "step") refl

grows-word : is_lexeme (grows_word.word tt) ≡ true
grows-word = letters-name (codes "grows") refl

with-word : is_lexeme (with_word.word tt) ≡ true
with-word = letters-name (codes "with") refl

line-word : is_lexeme (line_word.word tt) ≡ true
line-word = letters-name (codes "line") refl

variable-inner : Inner variable
unfolding variable
variable-inner = after-inner dollar (one number) syms.dollar_word number-inner

state_claimed-inner : Inner state_claimed
unfolding state_claimed
state_claimed-inner = after-inner from_word _ from-word
    (seq-inner (one number) _ number-inner (after-inner given_word _ given-word
    (before-inner (heap (terms true)) semicolon syms.semicolon_word (heap-of true))))

claim-inner : (v : ModelVersion) → Inner (claim v)
unfolding claim
claim-inner v = seq-inner definitions _ definitions-inner
    (seq-inner (lines (format_of v)) _ (lines-inner (format_of v) variable variable-inner)
    (seq-inner (ends (format_of v)) state_claimed (ends-inner (format_of v)) state_claimed-inner))

numbers-inner : (behind : Class (Unit {0})) → is_lexeme (behind.word tt) ≡ true → Inner (numbers behind)
unfolding numbers
numbers-inner behind h = listed-inner 0 comma behind (one number) syms.comma_word h number-inner

values-inner : Inner values
unfolding values
values-inner = or_empty-inner semicolon _ syms.semicolon_word (numbers-inner semicolon syms.semicolon_word)

cell-inner : Inner cell
unfolding cell
cell-inner = shaped-inner {A = ℕ × List ℕ} to_cell from_cell Any _
    (seq-inner (one number) _ number-inner (after-inner arrow _ syms.arrow_word
    (after-inner opening _ syms.opening_word (numbers-inner closing syms.closing_word))))

cells-inner : Inner cells
unfolding cells cells1
cells-inner = or_empty-inner semicolon _ syms.semicolon_word
    (listed-inner some_cell comma semicolon cell syms.comma_word syms.semicolon_word cell-inner)

state-inner : Inner state
unfolding state
state-inner = after-inner stack_word _ stack-word (seq-inner values _ values-inner
    (after-inner heap_word _ heap-word cells-inner))

pick-inner : Inner pick
unfolding pick
pick-inner =
    shaped-inner {A = Cell ⊎ (Unit {0} ⊎ Unit {0})} to_pick from_pick Any _
    (alt-inner (is_one number) cell _ cell-inner (alt-inner (is_one jump_word) (one jump_word) (one next_word)
    (one-inner jump_word (λ u f. jump-word)) (one-inner next_word (λ u f. next-word))))

picks-inner : Inner picks
unfolding picks picks1
picks-inner = or_empty-inner semicolon _ syms.semicolon_word
    (listed-inner some_pick comma semicolon pick syms.comma_word syms.semicolon_word pick-inner)

then_step-inner : Inner then_step
unfolding then_step
then_step-inner = seq-inner (one number) _ number-inner (after-inner step_word (one number) step-word number-inner)

value_pairs-inner : Inner value_pairs
unfolding value_pairs value_pair
value_pairs-inner = listed-inner some_pair comma closing value_pair syms.comma_word syms.closing_word
    (shaped-inner {A = ℕ × ℕ} to_pair from_pair Any _ (seq-inner (one number) (one number) number-inner number-inner))

growing-inner : Inner growing
unfolding growing
growing-inner =
    shaped-inner {A = (ℕ × ℕ) × List ValuePair} to_growth from_growth Any _
    (after-inner grows_word _ grows-word (after-inner step_word _ step-word
    (seq-inner then_step _ then_step-inner (after-inner with_word _ with-word
    (after-inner opening value_pairs syms.opening_word value_pairs-inner)))))

breaking_or_growing-inner : (b : Bool) → Inner (breaking_or_growing b)
unfolding breaking_or_growing breaking
breaking_or_growing-inner true =
    alt-inner (is_one breaks_word) _ _
    (after-inner breaks_word _ breaks-word (after-inner step_word (one number) step-word number-inner)) growing-inner
breaking_or_growing-inner false = shaped-inner {A = Growth} inr the_growth IsGrowing _ growing-inner

outcome-inner : (v : ModelVersion) → Inner (outcome v)
unfolding outcome faulting repeating
outcome-inner v =
    shaped-inner {A = Ends} to_outcome from_outcome Any _
    (alt-inner (is_one faults_word) _ _ (after-inner faults_word _ faults-word
    (after-inner line_word then_step line-word then_step-inner))
    (alt-inner (is_one repeats_word) _ _
    (after-inner repeats_word _ repeats-word (after-inner step_word then_step step-word then_step-inner))
    (breaking_or_growing-inner (has_breaks v))))

ending-inner : (v : ModelVersion) → Inner (ending v)
unfolding ending
ending-inner v =
    before-inner _ last_word last-word (before-inner (outcome v) semicolon syms.semicolon_word (outcome-inner v))

course-inner : (v : ModelVersion) → Inner (course v)
unfolding course
course-inner v = seq-inner state _ state-inner (after-inner picks_word _ picks-word
    (seq-inner picks (ending v) picks-inner (ending-inner v)))

contents-inner : (v : ModelVersion) → Inner (contents v)
contents-inner v =
    after-inner semicolon _ syms.semicolon_word (seq-inner (claim v) _ (claim-inner v)
    (before-inner (course v) semicolon syms.semicolon_word (course-inner v)))

pub body-inner : Inner body
unfolding body
body-inner = shaped-inner {A = Parts} to_run from_run Any _
    (after-inner cyclist_word _ cyclist-word (after-inner run_word _ run-word
    (headed-inner model_version contents version-word contents-inner)))

pub run-last : EndsLast run
unfolding run
run-last = end-once body body-inner
