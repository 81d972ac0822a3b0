-- What is answered to the question whether an entailment has a counter-model of a size.
use Rattle.std.specs.Prelude.{◌≡◌, ◌≤◌, ◌<◌, ◌⊎◌, ℕ, List, ◌++◌, length, codes, decimal, None, Result, Ok, Err}
use Rattle.cyc_basics.specs.declared.limits.TheConstants.{MOST_UNIVERSALS}
use Rattle.heap_formula.specs.declared.judgements.Judgement.{Judgement}
use Rattle.heap_formula.specs.declared.judgements.Judgement.TheVariants.{Entail, Term as Runs}
use Rattle.heap_formula.specs.Definitions.{Definition}
use Rattle.heap_formula.specs.Symbolic.{SymbolicHeap}
use Rattle.heap_formula.specs.Fresh.{judgement_bound}
use Rattle.heap_formula.specs.Values.{Stack}
use Rattle.heap_formula.specs.Cells.{Cells}
use Rattle.model_check.specs.declared.places.Place.{Place}
use Rattle.model_check.specs.FirstPlaces.{IsPlace, IsFirstPlace}
use Rattle.counter_model.specs.FirstCounter.{HasSize, IsCounter, IsFirstCounter}
use Rattle.formula_reader.specs.declared.problem.Problem.{Problem}
use Rattle.formula_reader.specs.Reading as problems
use Rattle.cyc_lex.specs.declared.fault.ReadFault.{ReadFault}
use Rattle.model_file.specs.declared.version.ModelVersion.{ModelVersion}
use Rattle.model_file.specs.Versions.{version_for}
use Rattle.model_file.specs.Written.{text_of_model}
use Rattle.command_answers.specs.ModelAnswers.{place_text}
use Rattle.cyc_runs.specs.declared.endings.Status.{Status}
use Rattle.cyc_runs.specs.declared.endings.Status.TheVariants.{Success, IllFormed, Limit, NotFound}
use Rattle.cyc_runs.specs.Faults.{IsFaultAnswer}
use Rattle.cyc_runs.specs.Runs.{Answering, input_limit}

-- ---- the lines

-- the goal is about a program
abbrev pub from_text : List ℕ
from_text = codes "ill-formed judgement from\n"

-- a universal's number is above 7
abbrev pub universals_text : List ℕ
universals_text = codes "limit universals\n"

abbrev pub not_found_text : ℕ → List ℕ
not_found_text n = codes "not found cells " ++ decimal n ++ codes "\n"

-- ---- the answers

abbrev pub IsTooWide : SymbolicHeap → List SymbolicHeap → Type 0
IsTooWide a bs = MOST_UNIVERSALS < judgement_bound (Entail a bs)

-- a search is made: few universals, and cases and disjuncts that are constructive
pub record IsSearched (ds : List Definition) (a : SymbolicHeap) (bs : List SymbolicHeap) : Type 0 where
  pub few : judgement_bound (Entail a bs) ≤ MOST_UNIVERSALS
  pub constructive : IsFirstPlace ds bs None

-- no stack and heap of the size is a counter-model
abbrev pub HasNone : ℕ → List Definition → SymbolicHeap → List SymbolicHeap → Type 0
HasNone n ds a bs = (s : Stack) (h : Cells) → HasSize ds a bs n s h → ¬ IsCounter ds a bs s h

abbrev pub IsWideAnswer : SymbolicHeap → List SymbolicHeap → Status → List ℕ → Type 0
IsWideAnswer a bs ending text = IsTooWide a bs × (ending ≡ Limit) × (text ≡ universals_text)

abbrev pub IsPlaceAnswer : List Definition → SymbolicHeap → List SymbolicHeap → Status → List ℕ → Type 0
IsPlaceAnswer ds a bs ending text =
    (place : Place) × (judgement_bound (Entail a bs) ≤ MOST_UNIVERSALS) × IsPlace ds bs place × (ending ≡ IllFormed)
    × (text ≡ place_text place)

abbrev pub IsNoneAnswer : ℕ → List Definition → SymbolicHeap → List SymbolicHeap → Status → List ℕ → Type 0
IsNoneAnswer n ds a bs ending text =
    IsSearched ds a bs × HasNone n ds a bs × (ending ≡ NotFound) × (text ≡ not_found_text n)

-- the file, of this version, of the first counter-model, with the definitions and the antecedent
abbrev pub IsModelFile : ModelVersion → ℕ → List Definition → SymbolicHeap → List SymbolicHeap → Status → List ℕ
    → Type 0
IsModelFile version n ds a bs ending text =
    (s : Stack) × (h : Cells) × IsSearched ds a bs × IsFirstCounter ds a bs n s h × (ending ≡ Success)
    × (text ≡ text_of_model version ds s h a)

-- a universal's number is too great; or a place is not constructive; or there is no counter-model of the size; or there
-- is
abbrev pub IsEntailmentAnswer : ModelVersion → ℕ → List Definition → SymbolicHeap → List SymbolicHeap → Status → List ℕ
    → Type 0
IsEntailmentAnswer version n ds a bs ending text =
    IsWideAnswer a bs ending text ⊎ (IsPlaceAnswer ds a bs ending text
    ⊎ (IsNoneAnswer n ds a bs ending text ⊎ IsModelFile version n ds a bs ending text))

-- a goal about a program has no such answer
abbrev pub IsGoalAnswer : ModelVersion → ℕ → List Definition → Judgement → Status → List ℕ → Type 0
IsGoalAnswer version n ds (Entail a bs) ending text = IsEntailmentAnswer version n ds a bs ending text
IsGoalAnswer version n ds (Runs i a) ending text = (ending ≡ IllFormed) × (text ≡ from_text)

-- a reader that answered so is answered so
abbrev pub IsReadAnswer : ℕ → Result Problem ReadFault → Status → List ℕ → Type 0
IsReadAnswer n (Ok problem) ending text =
    IsGoalAnswer (version_for problem.version) n problem.defs.list problem.goal ending text
IsReadAnswer n (Err fault) ending text = IsFaultAnswer fault ending text

-- the input is read as a problem, and answered so, for a size of at most 4
abbrev pub IsDisproved : ℕ → Answering
IsDisproved n input ending text =
    (length input ≤ input_limit) × (read : Result Problem ReadFault) × problems.IsRead input read
    × IsReadAnswer n read ending text × (n ≤ 4)

-- ---- what the answers say

abbrev pub OnEntailment : Judgement → (SymbolicHeap → List SymbolicHeap → Type 0) → Type 0
OnEntailment (Entail a bs) P = P a bs
OnEntailment (Runs i a) P = ⊥

-- the goal is an entailment with a counter-model of the size, of which the first is meant
abbrev pub IsRefuted : ℕ → Problem → Type 0
IsRefuted n problem = OnEntailment problem.goal (λ a bs. (s : Stack) × (h : Cells)
    × IsFirstCounter problem.defs.list a bs n s h)

-- the goal is an entailment without a counter-model of the size
abbrev pub HasNoCounter : ℕ → Problem → Type 0
HasNoCounter n problem = OnEntailment problem.goal (HasNone n problem.defs.list)
