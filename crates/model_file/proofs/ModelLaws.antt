-- The grammar of model files is lawful: what is read is spelled so, what is spelled is read, and a fault is exact.
use Rattle.std.proofs.Common.{◌≡◌, ℕ, false, List, [], ◌∷◌, ◌++◌, Some, refl}
use Rattle.cyc_lex.specs.Word.{Word}
use Rattle.cyc_grammar.specs.Syntax.{Class, one, seq, after, before, is_one}
use Rattle.cyc_grammar.specs.Classes.{the_end, number}
use Rattle.cyc_grammar.proofs.Laws.{Lawful, Stops, BeginsNot, ClassLaw, one-law, seq-law, shaped-law, after-law}
use Rattle.cyc_grammar.proofs.Laws.{before-law, headed-law, or_empty-law, Stops-never}
use Rattle.cyc_grammar.specs.Classes.{find_text}
use Rattle.cyc_grammar.proofs.ClassLaws.{symbol-law, keyword-law, the_end-law, number-law, numeral_of-law}
use Rattle.heap_syntax.proofs.HeapLaws.{closed-stops, listed-law, listed-closed, listed-some, listed-not}
use Rattle.heap_syntax.specs.Words.{comma, semicolon, arrow, opening, closing, last_word}
use Rattle.heap_syntax.specs.Grammar.{Any}
use Rattle.heap_syntax.specs.DefinitionTrees.{Heap, Definition}
use Rattle.heap_syntax.specs.DefinitionGrammar.{terms, heap, definitions}
use Rattle.heap_syntax.proofs.DefinitionLaws.{heap-lawful, heap-stops, definitions-law, definitions-end}
use Rattle.model_file.specs.Trees.{Cell}
use Rattle.model_file.specs.declared.version.ModelVersion.{ModelVersion}
use Rattle.model_file.specs.declared.version.ModelVersion.TheVariants.{One, Three}
use Rattle.model_file.specs.Versions.{version_text, versions, model_version}
use Rattle.model_file.specs.Grammar.{stack_word, heap_word, ask_word, numbers, values, to_cell, from_cell, cell}
use Rattle.model_file.specs.Grammar.{some_cell, cells1, cells, question, state, to_model, from_model, contents}
use Rattle.model_file.specs.Grammar.{body, model}

-- ---- numbers

numbers-law : (behind : Class (Unit {0})) → ClassLaw behind → is_one comma (behind.word tt) ≡ false
    → Lawful (numbers behind)
unfolding numbers
numbers-law behind law other =
    listed-law 0 comma behind (one number) (record {
      law = symbol-law _;
      last = law;
      apart = λ x f. refl;
      last_apart = λ x f. refl;
      differ = other;
    }) (one-law number number-law)

numbers-closed : (behind : Class (Unit {0})) (ns : List ℕ) (d : Word) → (numbers behind).more ns d ≡ false
unfolding numbers
numbers-closed behind ns d = listed-closed 0 comma behind (one number) ns d

values-law : Lawful values
unfolding values numbers
values-law =
    or_empty-law semicolon (numbers semicolon) (symbol-law _) (numbers-law semicolon (symbol-law _) refl)
    (listed-some 0 comma semicolon (one number))
    (listed-not 0 comma semicolon (one number) (is_one semicolon) (λ n f. refl))

values-closed : (ns : List ℕ) (d : Word) → values.more ns d ≡ false
unfolding values
values-closed [] d = refl
values-closed (n ∷ ns) d = numbers-closed semicolon (n ∷ ns) d

-- ---- cells

cell-law : Lawful cell
unfolding cell
cell-law =
    shaped-law {A = ℕ × List ℕ} to_cell from_cell Any _ (λ x f. (refl, tt)) (λ c h. refl)
    (seq-law (one number) (after arrow (after opening (numbers closing))) (one-law number number-law)
    (after-law arrow _ (symbol-law _) (after-law opening _ (symbol-law _) (numbers-law closing (symbol-law _) refl)))
    (λ x y r fx fy h. Stops-never ((after arrow (after opening (numbers closing))).words y ++ r)))

cell-closed : (c : Cell) (d : Word) → cell.more c d ≡ false
unfolding cell
cell-closed c d = numbers-closed closing c.fields d

cell-not : (c : Cell) → cell.fits c → BeginsNot (is_one semicolon) (cell.words c)
unfolding cell
cell-not c f = refl

cells1-law : Lawful cells1
unfolding cells1
cells1-law =
    listed-law some_cell comma semicolon cell (record {
      law = symbol-law _;
      last = symbol-law _;
      apart = λ x f. cell-closed x (comma.word tt);
      last_apart = λ x f. cell-closed x (semicolon.word tt);
      differ = refl;
    }) cell-law

cells-law : Lawful cells
unfolding cells cells1
cells-law =
    or_empty-law semicolon cells1 (symbol-law _) cells1-law (listed-some some_cell comma semicolon cell)
    (listed-not some_cell comma semicolon cell (is_one semicolon) cell-not)

cells-closed : (cs : List Cell) (d : Word) → cells.more cs d ≡ false
unfolding cells cells1
cells-closed [] d = refl
cells-closed (c ∷ cs) d = listed-closed some_cell comma semicolon cell (c ∷ cs) d

-- ---- the state and the question

state-law : Lawful state
unfolding state
state-law =
    after-law stack_word _ (keyword-law _) (seq-law values (after heap_word cells) values-law
    (after-law heap_word cells (keyword-law _) cells-law)
    (λ x y r fx fy h. closed-stops values (λ x d f. values-closed x d) x fx ((after heap_word cells).words y ++ r)))

state-closed : (s : List ℕ × List Cell) (d : Word) → state.more s d ≡ false
unfolding state
state-closed s d = cells-closed s.1 d

question-law : Lawful question
unfolding question
question-law =
    after-law ask_word _ (keyword-law _) (before-law (before (heap (terms false)) semicolon) last_word (keyword-law _)
    (before-law (heap (terms false)) semicolon (symbol-law _) (heap-lawful false)
    (λ h f. heap-stops false (semicolon.word tt) refl h f)) (λ h f. refl))

question-closed : (h : Heap) (d : Word) → question.more h d ≡ false
unfolding question
question-closed h d = refl

-- ---- model files

state-begins : (ds : List Definition) (s : List ℕ × List Cell) (h : Heap) (rest : List Word)
    → Stops (definitions.more ds) ((seq state (before question semicolon)).words (s, h) ++ rest)
unfolding state
state-begins ds s h rest = definitions-end (stack_word.word tt) refl ds

pub version-law : ClassLaw model_version
version-law = numeral_of-law version_text versions One found
  where
    found : (v : ModelVersion) → find_text version_text versions (version_text v) ≡ Some v
    found One = refl
    found Three = refl

contents-law : (v : ModelVersion) → Lawful (contents v)
contents-law v =
    after-law semicolon _ (symbol-law _)
    (seq-law definitions (seq state (before question semicolon)) definitions-law
    (seq-law state (before question semicolon) state-law
    (before-law question semicolon (symbol-law _) question-law (λ h f. question-closed h (semicolon.word tt)))
    (λ x y r fx fy h. closed-stops state (λ x d f. state-closed x d) x fx ((before question semicolon).words y ++ r)))
    (λ ds p r fx fy h. state-begins ds p.0 p.1 r))

body-law : Lawful body
unfolding body
body-law =
    shaped-law {A = (v : ModelVersion) × (List Definition × ((List ℕ × List Cell) × Heap))} to_model from_model Any _
    (λ x f. (refl, tt)) (λ m h. refl)
    (after-law _ _ (keyword-law _) (after-law _ _ (keyword-law _)
    (headed-law model_version contents version-law contents-law)))

pub model-law : Lawful model
unfolding model body
model-law = before-law body the_end the_end-law body-law (λ m f. refl)
