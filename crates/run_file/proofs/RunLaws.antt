-- The grammar of run files is lawful: what is read is spelled so, what is spelled is read, and a fault is exact.
use Rattle.std.proofs.Common.{◌≡◌, ℕ, Bool, true, false, List, [], ◌∷◌, ◌++◌, is_some, refl, ap, inl, inr, ◌⊎◌}
use Rattle.cyc_lex.specs.Word.{Word}
use Rattle.general_models.specs.declared.runs.growth.Growth.{Growth}
use Rattle.general_models.specs.declared.runs.growth.ValuePair.{ValuePair}
use Rattle.general_models.specs.declared.runs.picks.Pick.{Pick}
use Rattle.general_models.specs.declared.runs.picks.Pick.TheVariants.{Cell as CellPicked, Jumps}
use Rattle.cyc_grammar.specs.Syntax.{Syntax, Class, one, seq, alt, after, before, is_one}
use Rattle.cyc_grammar.specs.Classes.{the_end, number}
use Rattle.cyc_grammar.proofs.Laws.{Lawful, Stops, Begins, BeginsNot, ClassLaw, one-law, seq-law, shaped-law, alt-law}
use Rattle.cyc_grammar.proofs.Laws.{after-law, before-law, headed-law, or_empty-law, Stops-never}
use Rattle.cyc_grammar.proofs.ClassLaws.{symbol-law, keyword-law, the_end-law, number-law}
use Rattle.heap_syntax.specs.Words.{from_word, given_word, comma, semicolon, arrow, opening, closing, last_word}
use Rattle.heap_syntax.specs.Grammar.{Any}
use Rattle.heap_syntax.proofs.HeapLaws.{closed-stops, listed-law, listed-closed, listed-some, listed-not}
use Rattle.heap_syntax.specs.DefinitionTrees.{Heap, Definition}
use Rattle.heap_syntax.specs.DefinitionGrammar.{terms, heap, definitions}
use Rattle.heap_syntax.proofs.DefinitionLaws.{heap-lawful, heap-stops, definitions-law, definitions-end}
use Rattle.heap_syntax.specs.LineGrammar as commands
use Rattle.heap_syntax.proofs.CommandLaws.{lines-law, lines-end}
use Rattle.proof_syntax.specs.Trees.{Line}
use Rattle.proof_syntax.specs.Grammar.{variable, lines}
use Rattle.heap_syntax.specs.EndGrammar as endings
use Rattle.heap_syntax.specs.EndGrammar.{ends_word}
use Rattle.heap_syntax.specs.NumberedEnds.{End, ends}
use Rattle.heap_syntax.proofs.NumberedEndLaws.{ends-law, ends-end}
use Rattle.proof_syntax.proofs.GrammarLaws.{dollar_variables}
use Rattle.model_file.specs.declared.version.ModelVersion.{ModelVersion}
use Rattle.model_file.specs.declared.version.ModelVersion.TheVariants.{One, Three}
use Rattle.model_file.specs.Versions.{format_of, model_version}
use Rattle.model_file.proofs.ModelLaws.{version-law}
use Rattle.model_file.specs.Trees.{Cell}
use Rattle.model_file.specs.Grammar.{stack_word, heap_word, numbers, values, to_cell, from_cell, cell, some_cell}
use Rattle.model_file.specs.Grammar.{cells1, cells, state}
use Rattle.run_file.specs.declared.tree.Outcome.{Outcome}
use Rattle.run_file.specs.declared.tree.Outcome.TheVariants.{Faults, Repeats, Grows, Breaks}
use Rattle.run_file.specs.Grammar.{picks_word, jump_word, next_word, faults_word, repeats_word, step_word}
use Rattle.run_file.specs.Grammar.{Claim, state_claimed, claim, to_pick, from_pick, pick, some_pick, picks1, picks}
use Rattle.run_file.specs.Grammar.{then_step}
use Rattle.run_file.specs.Grammar.{faulting, repeating, to_outcome, from_outcome, outcome, ending, course, Parts}
use Rattle.run_file.specs.Grammar.{contents}
use Rattle.run_file.specs.Grammar.{to_run, from_run, body, run, grows_word, with_word, to_pair, from_pair, value_pair}
use Rattle.run_file.specs.Grammar.{some_pair, value_pairs, to_growth, from_growth, growing, breaks_word, breaking}
use Rattle.run_file.specs.Grammar.{has_breaks, IsGrowing, the_growth, breaking_or_growing, Ends}

-- ---- the claim

state_claimed-law : Lawful state_claimed
unfolding state_claimed
state_claimed-law =
    after-law from_word _ (keyword-law _) (seq-law (one number)
    (after given_word (before (heap (terms true)) semicolon)) (one-law number number-law)
    (after-law given_word _ (keyword-law _) (before-law (heap (terms true)) semicolon (symbol-law _) (heap-lawful true)
    (λ h f. heap-stops true (semicolon.word tt) refl h f)))
    (λ x y r fx fy h. Stops-never ((after given_word (before (heap (terms true)) semicolon)).words y ++ r)))

-- the ends, and what stands after them
abbrev behind_lines : ModelVersion → Syntax (List End × (ℕ × Heap))
behind_lines v = seq (ends (format_of v)) state_claimed

ends-apart : (v : ModelVersion) (es : List End) (x : ℕ × Heap) (rest : List Word)
    → Stops ((ends (format_of v)).more es) (state_claimed.words x ++ rest)
unfolding state_claimed
ends-apart v es x rest = ends-end (format_of v) (from_word.word tt) refl es

-- what goes on neither at the word "ends" nor at "from" stops before ends and the state
stops-behind : (v : ModelVersion) (more : Word → Bool) (es : List End) (x : ℕ × Heap) (rest : List Word)
    → more (ends_word.word tt) ≡ false → more (from_word.word tt) ≡ false
    → Stops more ((behind_lines v).words (es, x) ++ rest)
unfolding state_claimed endings.ends endings.end
stops-behind One more es x rest h k = k
stops-behind Three more [] x rest h k = k
stops-behind Three more (e ∷ es) x rest h k = h

lines-apart : (v : ModelVersion) (ls : List Line) (es : List End) (x : ℕ × Heap) (rest : List Word)
    → Stops ((lines (format_of v)).more ls) ((behind_lines v).words (es, x) ++ rest)
lines-apart v ls es x rest = stops-behind v ((lines (format_of v)).more ls) es x rest
    (lines-end (format_of v) variable (ends_word.word tt) refl ls)
    (lines-end (format_of v) variable (from_word.word tt) refl ls)

definitions-apart : (v : ModelVersion) (ds : List Definition) (ls : List Line) (es : List End) (x : ℕ × Heap)
    (rest : List Word)
    → Stops (definitions.more ds) ((seq (lines (format_of v)) (behind_lines v)).words (ls, (es, x)) ++ rest)
unfolding commands.lines commands.line
definitions-apart v ds [] es x rest = stops-behind v (definitions.more ds) es x rest
    (definitions-end (ends_word.word tt) refl ds) (definitions-end (from_word.word tt) refl ds)
definitions-apart v ds (l ∷ ls) es x rest = definitions-end (commands.line_word.word tt) refl ds

claim-law : (v : ModelVersion) → Lawful (claim v)
unfolding claim
claim-law v =
    let lines_of = lines (format_of v) in
    seq-law definitions (seq lines_of (behind_lines v)) definitions-law
    (seq-law lines_of (behind_lines v) (lines-law (format_of v) variable dollar_variables)
    (seq-law (ends (format_of v)) state_claimed (ends-law (format_of v)) state_claimed-law
    (λ es x r fe fx h. ends-apart v es x r))
    (λ ls p r fl fp h. lines-apart v ls p.0 p.1 r))
    (λ ds p r fd fp h. definitions-apart v ds p.0 p.1.0 p.1.1 r)

claim-closed : (v : ModelVersion) (c : Claim) (d : Word) → (claim v).more c d ≡ false
unfolding claim state_claimed
claim-closed v c d = refl

-- ---- numbers

numbers-law : (behind : Class (Unit {0})) → ClassLaw behind → is_one comma (behind.word tt) ≡ false
    → Lawful (numbers behind)
unfolding numbers
numbers-law behind law other =
    listed-law 0 comma behind (one number) (record {
      law = symbol-law _;
      last = law;
      apart = λ x f. refl;
      last_apart = λ x f. refl;
      differ = other;
    }) (one-law number number-law)

numbers-closed : (behind : Class (Unit {0})) (ns : List ℕ) (d : Word) → (numbers behind).more ns d ≡ false
unfolding numbers
numbers-closed behind ns d = listed-closed 0 comma behind (one number) ns d

values-law : Lawful values
unfolding values numbers
values-law =
    or_empty-law semicolon (numbers semicolon) (symbol-law _) (numbers-law semicolon (symbol-law _) refl)
    (listed-some 0 comma semicolon (one number))
    (listed-not 0 comma semicolon (one number) (is_one semicolon) (λ n f. refl))

values-closed : (ns : List ℕ) (d : Word) → values.more ns d ≡ false
unfolding values
values-closed [] d = refl
values-closed (n ∷ ns) d = numbers-closed semicolon (n ∷ ns) d

-- ---- cells

cell-law : Lawful cell
unfolding cell
cell-law =
    shaped-law {A = ℕ × List ℕ} to_cell from_cell Any _ (λ x f. (refl, tt)) (λ c h. refl)
    (seq-law (one number) (after arrow (after opening (numbers closing))) (one-law number number-law)
    (after-law arrow _ (symbol-law _) (after-law opening _ (symbol-law _) (numbers-law closing (symbol-law _) refl)))
    (λ x y r fx fy h. Stops-never ((after arrow (after opening (numbers closing))).words y ++ r)))

cell-closed : (c : Cell) (d : Word) → cell.more c d ≡ false
unfolding cell
cell-closed c d = numbers-closed closing c.fields d

cell-not : (c : Cell) → BeginsNot (is_one semicolon) (cell.words c)
unfolding cell
cell-not c = refl

cell-number : (c : Cell) → cell.fits c → Begins (is_one number) (cell.words c)
unfolding cell
cell-number c f = ap is_some (number-law.value c.address f.1.0)

cells1-law : Lawful cells1
unfolding cells1
cells1-law =
    listed-law some_cell comma semicolon cell (record {
      law = symbol-law _;
      last = symbol-law _;
      apart = λ x f. cell-closed x (comma.word tt);
      last_apart = λ x f. cell-closed x (semicolon.word tt);
      differ = refl;
    }) cell-law

cells-law : Lawful cells
unfolding cells cells1
cells-law =
    or_empty-law semicolon cells1 (symbol-law _) cells1-law (listed-some some_cell comma semicolon cell)
    (listed-not some_cell comma semicolon cell (is_one semicolon) (λ c f. cell-not c))

cells-closed : (cs : List Cell) (d : Word) → cells.more cs d ≡ false
unfolding cells cells1
cells-closed [] d = refl
cells-closed (c ∷ cs) d = listed-closed some_cell comma semicolon cell (c ∷ cs) d

state-law : Lawful state
unfolding state
state-law =
    after-law stack_word _ (keyword-law _) (seq-law values (after heap_word cells) values-law
    (after-law heap_word cells (keyword-law _) cells-law)
    (λ x y r fx fy h. closed-stops values (λ x d f. values-closed x d) x fx ((after heap_word cells).words y ++ r)))

state-closed : (s : List ℕ × List Cell) (d : Word) → state.more s d ≡ false
unfolding state
state-closed s d = cells-closed s.1 d

-- ---- picks

pick-law : Lawful pick
unfolding pick
pick-law =
    shaped-law {A = Cell ⊎ (Unit {0} ⊎ Unit {0})} to_pick from_pick Any _ (λ x f. (there x, tt)) (λ p h. here p)
    (alt-law (is_one number) cell (alt (is_one jump_word) (one jump_word) (one next_word)) cell-number
    (λ x f. no_number x) cell-law
    (alt-law (is_one jump_word) (one jump_word) (one next_word) (λ u f. refl) (λ u f. refl)
    (one-law jump_word (keyword-law _)) (one-law next_word (keyword-law _))))
  where
    there : (x : Cell ⊎ (Unit {0} ⊎ Unit {0})) → from_pick (to_pick x) ≡ x
    there (inl c) = refl
    there (inr (inl u)) = refl
    there (inr (inr u)) = refl

    here : (p : Pick) → to_pick (from_pick p) ≡ p
    here (CellPicked a vs) = refl
    here (Jumps true) = refl
    here (Jumps false) = refl

    no_number : (x : Unit {0} ⊎ Unit {0}) → BeginsNot (is_one number)
        ((alt (is_one jump_word) (one jump_word) (one next_word)).words x)
    no_number (inl u) = refl
    no_number (inr u) = refl

pick-closed : (p : Pick) (d : Word) → pick.more p d ≡ false
unfolding pick
pick-closed (CellPicked a vs) d = cell-closed (record { address = a; fields = vs }) d
pick-closed (Jumps true) d = refl
pick-closed (Jumps false) d = refl

pick-not : (p : Pick) → BeginsNot (is_one semicolon) (pick.words p)
unfolding pick
pick-not (CellPicked a vs) = cell-not (record { address = a; fields = vs })
pick-not (Jumps true) = refl
pick-not (Jumps false) = refl

picks1-law : Lawful picks1
unfolding picks1
picks1-law =
    listed-law some_pick comma semicolon pick (record {
      law = symbol-law _;
      last = symbol-law _;
      apart = λ x f. pick-closed x (comma.word tt);
      last_apart = λ x f. pick-closed x (semicolon.word tt);
      differ = refl;
    }) pick-law

picks-law : Lawful picks
unfolding picks picks1
picks-law =
    or_empty-law semicolon picks1 (symbol-law _) picks1-law (listed-some some_pick comma semicolon pick)
    (listed-not some_pick comma semicolon pick (is_one semicolon) (λ p f. pick-not p))

picks-closed : (ps : List Pick) (d : Word) → picks.more ps d ≡ false
unfolding picks picks1
picks-closed [] d = refl
picks-closed (p ∷ ps) d = listed-closed some_pick comma semicolon pick (p ∷ ps) d

-- ---- the outcome

then_step-law : Lawful then_step
unfolding then_step
then_step-law =
    seq-law (one number) (after step_word (one number)) (one-law number number-law)
    (after-law step_word (one number) (keyword-law _) (one-law number number-law))
    (λ x y r fx fy h. Stops-never ((after step_word (one number)).words y ++ r))

then_step-closed : (p : ℕ × ℕ) (d : Word) → then_step.more p d ≡ false
unfolding then_step
then_step-closed p d = refl

value_pair-law : Lawful value_pair
unfolding value_pair
value_pair-law =
    shaped-law {A = ℕ × ℕ} to_pair from_pair Any _ (λ x f. (refl, tt)) (λ p h. refl)
    (seq-law (one number) (one number) (one-law number number-law) (one-law number number-law)
    (λ x y r fx fy h. Stops-never ((one number).words y ++ r)))

value_pair-closed : (p : ValuePair) (d : Word) → value_pair.more p d ≡ false
unfolding value_pair
value_pair-closed p d = refl

value_pairs-law : Lawful value_pairs
unfolding value_pairs
value_pairs-law =
    listed-law some_pair comma closing value_pair (record {
      law = symbol-law _;
      last = symbol-law _;
      apart = λ x f. value_pair-closed x (comma.word tt);
      last_apart = λ x f. value_pair-closed x (closing.word tt);
      differ = refl;
    }) value_pair-law

value_pairs-closed : (ps : List ValuePair) (d : Word) → value_pairs.more ps d ≡ false
unfolding value_pairs
value_pairs-closed ps d = listed-closed some_pair comma closing value_pair ps d

growing-law : Lawful growing
unfolding growing
growing-law =
    shaped-law {A = (ℕ × ℕ) × List ValuePair} to_growth from_growth Any _ (λ x f. (refl, tt)) (λ g h. refl)
    (after-law grows_word _ (keyword-law _) (after-law step_word _ (keyword-law _)
    (seq-law then_step (after with_word (after opening value_pairs)) then_step-law
    (after-law with_word _ (keyword-law _) (after-law opening value_pairs (symbol-law _) value_pairs-law))
    (λ x y r fx fy h. closed-stops then_step (λ x d f. then_step-closed x d) x fx
    ((after with_word (after opening value_pairs)).words y ++ r)))))

growing-closed : (g : Growth) (d : Word) → growing.more g d ≡ false
unfolding growing
growing-closed g d = value_pairs-closed g.renaming d

breaking-law : Lawful breaking
unfolding breaking
breaking-law = after-law breaks_word _ (keyword-law _)
    (after-law step_word (one number) (keyword-law _) (one-law number number-law))

breaking_or_growing-law : (b : Bool) → Lawful (breaking_or_growing b)
unfolding breaking_or_growing breaking growing
breaking_or_growing-law true = alt-law (is_one breaks_word) breaking growing (λ n f. refl) (λ g f. refl)
    breaking-law growing-law
breaking_or_growing-law false = shaped-law {A = Growth} inr the_growth IsGrowing growing (λ x f. (refl, tt)) here
    growing-law
  where
    here : (x : ℕ ⊎ Growth) → IsGrowing x → inr (the_growth x) ≡ x
    here (inl n) h = absurd h
    here (inr g) h = refl

breaking_or_growing-closed : (b : Bool) (x : ℕ ⊎ Growth) (d : Word) → (breaking_or_growing b).more x d ≡ false
unfolding breaking_or_growing breaking
breaking_or_growing-closed true (inl n) d = refl
breaking_or_growing-closed true (inr g) d = growing-closed g d
breaking_or_growing-closed false x d = growing-closed (the_growth x) d

-- other outcomes begin with other words
breaking_or_growing-not : (b : Bool) (x : ℕ ⊎ Growth) → BeginsNot (is_one faults_word) ((breaking_or_growing b).words x)
    × BeginsNot (is_one repeats_word) ((breaking_or_growing b).words x)
unfolding breaking_or_growing breaking growing
breaking_or_growing-not true (inl n) = (refl, refl)
breaking_or_growing-not true (inr g) = (refl, refl)
breaking_or_growing-not false x = (refl, refl)

abbrev others : ModelVersion → Syntax (ℕ ⊎ Growth)
others v = breaking_or_growing (has_breaks v)

outcome-law : (v : ModelVersion) → Lawful (outcome v)
unfolding outcome faulting repeating
outcome-law v =
    shaped-law {A = Ends} to_outcome from_outcome Any _ (λ x f. (there x, tt)) (λ o h. here o)
    (alt-law (is_one faults_word) faulting (alt (is_one repeats_word) repeating (others v)) (λ p f. refl)
    (λ x f. no_fault x)
    (after-law faults_word _ (keyword-law _) (after-law commands.line_word then_step (keyword-law _) then_step-law))
    (alt-law (is_one repeats_word) repeating (others v) (λ p f. refl)
    (λ x f. (breaking_or_growing-not (has_breaks v) x).1)
    (after-law repeats_word _ (keyword-law _) (after-law step_word then_step (keyword-law _) then_step-law))
    (breaking_or_growing-law (has_breaks v))))
  where
    there : (x : Ends) → from_outcome (to_outcome x) ≡ x
    there (inl p) = refl
    there (inr (inl p)) = refl
    there (inr (inr (inl n))) = refl
    there (inr (inr (inr g))) = refl

    here : (o : Outcome) → to_outcome (from_outcome o) ≡ o
    here (Faults l n) = refl
    here (Repeats m n) = refl
    here (Grows g) = refl
    here (Breaks n) = refl

    no_fault : (x : (ℕ × ℕ) ⊎ (ℕ ⊎ Growth)) → BeginsNot (is_one faults_word)
        ((alt (is_one repeats_word) repeating (others v)).words x)
    no_fault (inl p) = refl
    no_fault (inr x) = (breaking_or_growing-not (has_breaks v) x).0

outcome-closed : (v : ModelVersion) (o : Outcome) (d : Word) → (outcome v).more o d ≡ false
unfolding outcome faulting repeating
outcome-closed v (Faults l n) d = then_step-closed (l, n) d
outcome-closed v (Repeats m n) d = then_step-closed (m, n) d
outcome-closed v (Grows g) d = breaking_or_growing-closed (has_breaks v) (inr g) d
outcome-closed v (Breaks n) d = breaking_or_growing-closed (has_breaks v) (inl n) d

ending-law : (v : ModelVersion) → Lawful (ending v)
unfolding ending
ending-law v = before-law (before (outcome v) semicolon) last_word (keyword-law _)
    (before-law (outcome v) semicolon (symbol-law _) (outcome-law v) (λ o f. outcome-closed v o (semicolon.word tt)))
    (λ o f. refl)

-- ---- run files

course-law : (v : ModelVersion) → Lawful (course v)
unfolding course
course-law v =
    seq-law state (after picks_word (seq picks (ending v))) state-law
    (after-law picks_word _ (keyword-law _) (seq-law picks (ending v) picks-law (ending-law v)
    (λ x y r fx fy h. closed-stops picks (λ x d f. picks-closed x d) x fx ((ending v).words y ++ r))))
    (λ x y r fx fy h. closed-stops state (λ x d f. state-closed x d) x fx
    ((after picks_word (seq picks (ending v))).words y ++ r))

course-closed : (v : ModelVersion) (c : (List ℕ × List Cell) × (List Pick × Outcome)) (d : Word)
    → (course v).more c d ≡ false
unfolding course ending
course-closed v c d = refl

contents-law : (v : ModelVersion) → Lawful (contents v)
contents-law v =
    after-law semicolon _ (symbol-law _)
    (seq-law (claim v) (before (course v) semicolon) (claim-law v)
    (before-law (course v) semicolon (symbol-law _) (course-law v) (λ c f. course-closed v c (semicolon.word tt)))
    (λ x y r fx fy h. closed-stops (claim v) (λ x d f. claim-closed v x d) x fx
    ((before (course v) semicolon).words y ++ r)))

body-law : Lawful body
unfolding body
body-law =
    shaped-law {A = Parts} to_run from_run Any _ (λ x f. (refl, tt)) (λ r h. refl)
    (after-law _ _ (keyword-law _) (after-law _ _ (keyword-law _)
    (headed-law model_version contents version-law contents-law)))

pub run-law : Lawful run
unfolding run body
run-law = before-law body the_end the_end-law body-law (λ r f. refl)
