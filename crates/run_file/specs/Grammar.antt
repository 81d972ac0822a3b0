-- The grammar of run files.
use Rattle.std.specs.Prelude.{ℕ, Bool, true, false, List, [], ◌⊎◌, codes}
use Rattle.std.proofs.Common.{inl, inr}
use Rattle.cyc_grammar.specs.Syntax.{Syntax, Class, one, seq, alt, shaped, after, before, headed, is_one, or_empty}
use Rattle.cyc_grammar.specs.Classes.{keyword, the_end, number}
use Rattle.general_models.specs.declared.runs.growth.Growth.{Growth}
use Rattle.general_models.specs.declared.runs.growth.ValuePair.{ValuePair}
use Rattle.general_models.specs.declared.runs.picks.Pick.{Pick}
use Rattle.general_models.specs.declared.runs.picks.Pick.TheVariants.{Cell as CellPicked, Jumps}
use Rattle.heap_syntax.specs.Words.{cyclist_word, from_word, given_word, comma, semicolon, opening, closing, last_word}
use Rattle.heap_syntax.specs.Grammar.{Any, listed}
use Rattle.heap_syntax.specs.DefinitionGrammar.{terms, heap, definitions}
use Rattle.heap_syntax.specs.DefinitionTrees.{Heap, Definition}
use Rattle.heap_syntax.specs.LineGrammar.{line_word}
use Rattle.heap_syntax.specs.NumberedEnds.{End, ends}
use Rattle.proof_syntax.specs.Grammar.{lines}
use Rattle.proof_syntax.specs.Trees.{Line}
use Rattle.model_file.specs.declared.version.ModelVersion.{ModelVersion}
use Rattle.model_file.specs.declared.version.ModelVersion.TheVariants.{One, Three}
use Rattle.model_file.specs.Versions.{format_of, model_version}
use Rattle.model_file.specs.Grammar.{cell, state}
use Rattle.model_file.specs.Trees.{Cell}
use Rattle.run_file.specs.declared.tree.Outcome.{Outcome}
use Rattle.run_file.specs.declared.tree.Outcome.TheVariants.{Faults, Repeats, Grows, Breaks}
use Rattle.run_file.specs.Trees.{Run}

-- ---- words

abbrev pub run_word : Class (Unit {0})
run_word = keyword (codes "run")

abbrev pub picks_word : Class (Unit {0})
picks_word = keyword (codes "picks")

abbrev pub jump_word : Class (Unit {0})
jump_word = keyword (codes "jump")

abbrev pub next_word : Class (Unit {0})
next_word = keyword (codes "next")

abbrev pub faults_word : Class (Unit {0})
faults_word = keyword (codes "faults")

abbrev pub repeats_word : Class (Unit {0})
repeats_word = keyword (codes "repeats")

abbrev pub grows_word : Class (Unit {0})
grows_word = keyword (codes "grows")

-- this word is not reserved
abbrev pub breaks_word : Class (Unit {0})
breaks_word = keyword (codes "breaks")

abbrev pub step_word : Class (Unit {0})
step_word = keyword (codes "step")

abbrev pub with_word : Class (Unit {0})
with_word = keyword (codes "with")

-- ---- the claim: { pred } { line } { end } "from" number "given" uheap ";"; a line may be a free branch

unfoldable pub state_claimed : Syntax (ℕ × Heap)
state_claimed = after from_word (seq (one number) (after given_word (before (heap (terms true)) semicolon)))

abbrev pub Claim : Type 0
Claim = List Definition × (List Line × (List End × (ℕ × Heap)))

unfoldable pub claim : ModelVersion → Syntax Claim
claim v = seq definitions (seq (lines (format_of v)) (seq (ends (format_of v)) state_claimed))

-- ---- pick = hcell | "jump" | "next"

abbrev pub to_pick : Cell ⊎ (Unit {0} ⊎ Unit {0}) → Pick
to_pick (inl c) = CellPicked c.address c.fields
to_pick (inr (inl u)) = Jumps true
to_pick (inr (inr u)) = Jumps false

abbrev pub from_pick : Pick → Cell ⊎ (Unit {0} ⊎ Unit {0})
from_pick (CellPicked a vs) = inl (record { address = a; fields = vs })
from_pick (Jumps true) = inr (inl tt)
from_pick (Jumps false) = inr (inr tt)

unfoldable pub pick : Syntax Pick
pick = shaped {A = Cell ⊎ (Unit {0} ⊎ Unit {0})} to_pick from_pick Any
    (alt (is_one number) cell (alt (is_one jump_word) (one jump_word) (one next_word)))

abbrev pub some_pick : Pick
some_pick = Jumps true

-- pick { "," pick } ";"
unfoldable pub picks1 : Syntax (List Pick)
picks1 = listed some_pick comma semicolon pick

-- [ pick { "," pick } ] ";"
unfoldable pub picks : Syntax (List Pick)
picks = or_empty semicolon picks1

-- ---- pair = number number

abbrev pub to_pair : ℕ × ℕ → ValuePair
to_pair p = record { before = p.0; after = p.1 }

abbrev pub from_pair : ValuePair → ℕ × ℕ
from_pair p = (p.before, p.after)

unfoldable pub value_pair : Syntax ValuePair
value_pair = shaped {A = ℕ × ℕ} to_pair from_pair Any (seq (one number) (one number))

abbrev pub some_pair : ValuePair
some_pair = record { before = 0; after = 0 }

-- pair { "," pair } ")"
unfoldable pub value_pairs : Syntax (List ValuePair)
value_pairs = listed some_pair comma closing value_pair

-- ---- outcome = "faults" "line" number "step" number | "repeats" "step" number "step" number
-- | "grows" "step" number "step" number "with" "(" pairs | "breaks" "step" number; the last where programs have ends

-- number "step" number
unfoldable pub then_step : Syntax (ℕ × ℕ)
then_step = seq (one number) (after step_word (one number))

unfoldable pub faulting : Syntax (ℕ × ℕ)
faulting = after faults_word (after line_word then_step)

unfoldable pub repeating : Syntax (ℕ × ℕ)
repeating = after repeats_word (after step_word then_step)

abbrev pub to_growth : (ℕ × ℕ) × List ValuePair → Growth
to_growth p = record { first = p.0.0; again = p.0.1; renaming = p.1 }

abbrev pub from_growth : Growth → (ℕ × ℕ) × List ValuePair
from_growth g = ((g.first, g.again), g.renaming)

unfoldable pub growing : Syntax Growth
growing = shaped {A = (ℕ × ℕ) × List ValuePair} to_growth from_growth Any
    (after grows_word (after step_word (seq then_step (after with_word (after opening value_pairs)))))

unfoldable pub breaking : Syntax ℕ
breaking = after breaks_word (after step_word (one number))

-- which versions tell that a run breaks an end
abbrev pub has_breaks : ModelVersion → Bool
has_breaks One = false
has_breaks Three = true

abbrev pub IsGrowing : ℕ ⊎ Growth → Type 0
IsGrowing (inl n) = ⊥
IsGrowing (inr g) = Unit {0}

abbrev pub the_growth : ℕ ⊎ Growth → Growth
the_growth (inl n) = record { first = 0; again = 0; renaming = [] }
the_growth (inr g) = g

-- breaking, where the version has it, or growing
unfoldable pub breaking_or_growing : Bool → Syntax (ℕ ⊎ Growth)
breaking_or_growing true = alt (is_one breaks_word) breaking growing
breaking_or_growing false = shaped {A = Growth} inr the_growth IsGrowing growing

abbrev pub Ends : Type 0
Ends = (ℕ × ℕ) ⊎ ((ℕ × ℕ) ⊎ (ℕ ⊎ Growth))

abbrev pub to_outcome : Ends → Outcome
to_outcome (inl p) = Faults p.0 p.1
to_outcome (inr (inl p)) = Repeats p.0 p.1
to_outcome (inr (inr (inl n))) = Breaks n
to_outcome (inr (inr (inr g))) = Grows g

abbrev pub from_outcome : Outcome → Ends
from_outcome (Faults l n) = inl (l, n)
from_outcome (Repeats m n) = inr (inl (m, n))
from_outcome (Breaks n) = inr (inr (inl n))
from_outcome (Grows g) = inr (inr (inr g))

unfoldable pub outcome : ModelVersion → Syntax Outcome
outcome v = shaped {A = Ends} to_outcome from_outcome Any
    (alt (is_one faults_word) faulting
    (alt (is_one repeats_word) repeating (breaking_or_growing (has_breaks v))))

-- ---- run = "cyclist" "run" version ";" claim "stack" values "heap" cells "picks" picks outcome ";" "end" ";", and the
-- end of the text; the versions are those of model files

-- outcome ";" "end"
unfoldable pub ending : ModelVersion → Syntax Outcome
ending v = before (before (outcome v) semicolon) last_word

-- "stack" values "heap" cells "picks" picks outcome ";" "end"
unfoldable pub course : ModelVersion → Syntax ((List ℕ × List Cell) × (List Pick × Outcome))
course v = seq state (after picks_word (seq picks (ending v)))

abbrev pub Contents : Type 0
Contents = Claim × ((List ℕ × List Cell) × (List Pick × Outcome))

-- what stands after the version
abbrev pub contents : ModelVersion → Syntax Contents
contents v = after semicolon (seq (claim v) (before (course v) semicolon))

abbrev pub Parts : Type 0
Parts = (v : ModelVersion) × Contents

abbrev pub to_run : Parts → Run
to_run p = record {
  version = p.0;
  definitions = p.1.0.0;
  lines = p.1.0.1.0;
  ends = p.1.0.1.1.0;
  line = p.1.0.1.1.1.0;
  precondition = p.1.0.1.1.1.1;
  stack = p.1.1.0.0;
  cells = p.1.1.0.1;
  picks = p.1.1.1.0;
  outcome = p.1.1.1.1;
}

abbrev pub claim_of : Run → Claim
claim_of r = (r.definitions, (r.lines, (r.ends, (r.line, r.precondition))))

abbrev pub course_of : Run → (List ℕ × List Cell) × (List Pick × Outcome)
course_of r = ((r.stack, r.cells), (r.picks, r.outcome))

abbrev pub from_run : Run → Parts
from_run r = (r.version, (claim_of r, course_of r))

unfoldable pub body : Syntax Run
body = shaped {A = Parts} to_run from_run Any (after cyclist_word (after run_word (headed model_version contents)))

unfoldable pub run : Syntax Run
run = before body the_end
