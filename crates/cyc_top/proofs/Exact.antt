-- How each run ends, and what its end says.
use Rattle.std.proofs.Common.{◌≡◌, ◌⊎◌, ℕ, ◌≤◌, List, true, false, ap, sym, ◌∙◌, arith, subst, inl, inr, length, Option}
use Rattle.std.proofs.Common.{Some, None}
use Rattle.std.specs.Prelude.{Result, Ok, Err}
use Rattle.std.specs.Io.KnownBytes.{Appends}
use Rattle.heap_formula.specs.declared.proof_rules.Reason.{Reason}
use Rattle.heap_formula.specs.Judgements.{JudgementHolds}
use Rattle.derivations.specs.System.{IsFound, search_of}
use Rattle.cyc_lex.specs.declared.fault.ReadFault.{ReadFault}
use Rattle.formula_reader.specs.declared.problem.Problem.{Problem}
use Rattle.formula_reader.specs.Reading as problems
use Rattle.proof_file.specs.declared.file.ProofFile.{ProofFile}
use Rattle.proof_file.specs.Reading.{IsRead}
use Rattle.proof_check.specs.Verdicts.{file_graph, state_limit, IsCorrect}
use Rattle.buchi_inclusion.specs.Answers.{HasAtMost}
use Rattle.fo_formula.specs.declared.nodes.FoFile.{FoFile}
use Rattle.fo_formula.specs.declared.nodes.FoReason.{FoReason}
use Rattle.fo_file.specs.declared.values.problem.FoProblem.{FoProblem}
use Rattle.fo_search.specs.Outcomes as first_order_searches
use Rattle.fo_file.specs.Reading as first_order
use Rattle.fo_logic.specs.Verdicts as first_order_verdicts
use Rattle.proof_search.specs.declared.prover.Proved.{Proved}
use Rattle.proof_search.specs.declared.prover.Proved.TheVariants.{Found, NotFound, TooManyDerivations}
use Rattle.proof_search.specs.declared.prover.Proved.TheVariants as answers
use Rattle.proof_search.specs.Outcomes.{search_for, IsProved}
use Rattle.cyc_words.specs.Words.{reads_input}
use Rattle.cyc_words.specs.declared.tasks.Task.{Task}
use Rattle.cyc_words.specs.declared.tasks.Task.TheVariants.{Check, Prove, Ring, Upgrade, Sat, Model, Disprove}
use Rattle.cyc_words.specs.declared.tasks.Task.TheVariants.{FirstOrderProve, FirstOrderCheck}
use Rattle.cyc_runs.specs.declared.endings.Status.{Status}
use Rattle.cyc_runs.specs.declared.endings.Status.TheVariants as status
use Rattle.cyc_runs.specs.Endings.{is_answer}
use Rattle.cyc_runs.specs.Runs.{IsTold, input_limit}
use Rattle.cyc_runs.proofs.WaysToEnd.{ending_kind, ended_so as run_ended_so, fault_fails, fault_is_no_refusal}
use Rattle.cyc_runs.proofs.Told.{told_is}
use Rattle.check_answers.proofs.Checks as checks
use Rattle.cyc_top.specs.Answers.{Answers, IsAnswer, IsHeadline, IsRefusal, IsUnrefuted, IsSearchAnswer}
use Rattle.cyc_top.specs.Answers.{IsUpgradeAnswer, WroteAnswer, WroteFirstOrderProof, WroteModel, WroteProof}
use Rattle.cyc_top.specs.Answers.{derivation_limit, proved_status, proved_text}
use Rattle.check_answers.specs.Alike.{AreAlike}
use Rattle.command_answers.proofs.Readings.{one_problem_reading}
use Rattle.cyc_top.proofs.OneAnswer.{one_answer}
use Rattle.cyc_top.proofs.OneSearch.{found_search, goal_holds, proof_accepted}
use Rattle.command_answers.specs.ModelAnswers.{holds_text}
use Rattle.command_answers.proofs.ModelOneAnswer.{refusal_fails, success_satisfies}
use Rattle.command_answers.proofs.DisproveOneAnswer.{disprove_refuses_not, model_holds, none_found, success_refutes}
use Rattle.command_answers.proofs.FirstOrderOneAnswer.{correct_accepted, refusal_incorrect as first_order_incorrect}
use Rattle.command_answers.proofs.FirstOrderOneAnswer.{success_holds as first_order_holds}
use Rattle.command_answers.proofs.OneSearch as first_order_search
use Rattle.command_answers.proofs.OneAnswer.{refusal_impossible, success_possible}

-- ---- what was told

-- an answer to what was told is one for the told input
pub answer_for : (task : Option Task) (told : Option (List ℕ)) (input : List ℕ) (s : Status) (xs : List ℕ)
    → told ≡ Some input → Answers task told s xs → IsAnswer task input s xs
answer_for task told input s xs e answer =
    subst (λ i. IsAnswer task i s xs) (sym (told_is told input answer.0 e answer.1)) answer.2

-- an answer to what was told is the one that the told input has
pub told_status : (task : Option Task) (told : Option (List ℕ)) (input : List ℕ) (s t : Status) (xs ys : List ℕ)
    → told ≡ Some input → IsAnswer task input t ys → Answers task told s xs → s ≡ t
told_status task told input s t xs ys e expected answer =
    (one_answer task input s t xs ys (answer_for task told input s xs e answer) expected).0

-- ---- success

-- a search that ends with success found a proof
success_holds : (p : Problem) (a : Proved) → IsProved p a → status.Success ≡ proved_status a
    → JudgementHolds p.defs.list p.program p.goal
success_holds p (Found f) is e = goal_holds p f is
success_holds p NotFound is e = absurd cc
success_holds p TooManyDerivations is e = absurd cc
success_holds p answers.TooManyStates is e = absurd cc

-- so it read a problem whose goal holds
success_proves : (depth : ℕ) (input : List ℕ) (r : Result Problem ReadFault) (xs : List ℕ) → problems.IsRead input r
    → IsSearchAnswer depth r status.Success xs → (p : Problem) × problems.IsRead input (Ok p)
    × JudgementHolds p.defs.list p.program p.goal
success_proves depth input (Ok p) xs is answer = (p, is, success_holds p answer.0 answer.1.1 answer.2)
success_proves depth input (Err fault) xs is answer = absurd (fault_fails fault answer.0)

-- an upgrade that ends with success read a file
upgrade_reads : (input : List ℕ) (r : Result ProofFile ReadFault) (xs : List ℕ) → IsRead input r
    → IsUpgradeAnswer r status.Success xs → (file : ProofFile) × IsRead input (Ok file)
upgrade_reads input (Ok file) xs is answer = (file, is)
upgrade_reads input (Err fault) xs is answer = absurd (fault_fails fault answer.0)

-- a task that ends with success says what it says
pub success_true : (task : Option Task) (told : Option (List ℕ)) (input xs : List ℕ) → IsTold told input
    → IsAnswer task input status.Success xs → IsHeadline task told
success_true None told input xs is answer = absurd (let e : status.Success ≡ status.Usage = answer.0 in cc)
success_true (Some Check) told input xs is answer = (input, is, checks.success_holds input xs answer)
success_true (Some (Prove depth)) told input xs is (inl long) = absurd
    (let e : status.Success ≡ status.Limit = long.1 in cc)
success_true (Some (Prove depth)) told input xs is (inr searched) =
    (input, is, success_proves depth input searched.1 xs searched.2 searched.3)
success_true (Some Upgrade) told input xs is (inl long) = absurd (let e : status.Success ≡ status.Limit = long.1 in cc)
success_true (Some Upgrade) told input xs is (inr upgraded) =
    (input, is, upgraded.0, upgrade_reads input upgraded.1 xs upgraded.2 upgraded.3)
success_true (Some Sat) told input xs is (inl long) = absurd (let e : status.Success ≡ status.Limit = long.1 in cc)
success_true (Some Sat) told input xs is (inr asked) = (input, is, success_possible input asked.1 xs asked.2 asked.3)
success_true (Some Model) told input xs is (inl long) = absurd (let e : status.Success ≡ status.Limit = long.1 in cc)
success_true (Some Model) told input xs is (inr modelled) = (input, is, success_satisfies input xs modelled)
success_true (Some (Disprove cells)) told input xs is (inl long) = absurd
    (let e : status.Success ≡ status.Limit = long.1 in cc)
success_true (Some (Disprove cells)) told input xs is (inr disproved) =
    (input, is, success_refutes cells input xs disproved)
success_true (Some (FirstOrderProve depth)) told input xs is (inl long) = absurd
    (let e : status.Success ≡ status.Limit = long.1 in cc)
success_true (Some (FirstOrderProve depth)) told input xs is (inr searched) =
    (input, is, first_order_search.success_proves depth input xs searched)
success_true (Some FirstOrderCheck) told input xs is (inl long) = absurd
    (let e : status.Success ≡ status.Limit = long.1 in cc)
success_true (Some FirstOrderCheck) told input xs is (inr checked) = (input, is, first_order_holds input xs checked)
success_true (Some (Ring k)) told input xs is answer = tt

-- ---- refusals

-- a search refuses nothing
search_refuses_not : (a : Proved) → status.Refused ≡ proved_status a → ⊥
search_refuses_not (Found f) e = cc
search_refuses_not NotFound e = cc
search_refuses_not TooManyDerivations e = cc
search_refuses_not answers.TooManyStates e = cc

searched_refuses_not : (depth : ℕ) (r : Result Problem ReadFault) (xs : List ℕ)
    → IsSearchAnswer depth r status.Refused xs → ⊥
searched_refuses_not depth (Ok p) xs answer = search_refuses_not answer.0 answer.2
searched_refuses_not depth (Err fault) xs answer = fault_is_no_refusal fault answer.0

-- nor does an upgrade
upgrade_refuses_not : (r : Result ProofFile ReadFault) (xs : List ℕ) → IsUpgradeAnswer r status.Refused xs → ⊥
upgrade_refuses_not (Ok file) xs answer = let e : status.Refused ≡ status.Success = answer.2 in cc
upgrade_refuses_not (Err fault) xs answer = fault_is_no_refusal fault answer.0

-- a task that refuses says what it says
refused_true : (task : Option Task) (told : Option (List ℕ)) (input xs : List ℕ) → IsTold told input
    → IsAnswer task input status.Refused xs → IsRefusal task told
refused_true None told input xs is answer = let e : status.Refused ≡ status.Usage = answer.0 in cc
refused_true (Some Check) told input xs is answer = (input, is, checks.check_refuses input xs answer)
refused_true (Some (Prove depth)) told input xs is (inl long) = let e : status.Refused ≡ status.Limit = long.1 in cc
refused_true (Some (Prove depth)) told input xs is (inr searched) = searched_refuses_not depth searched.1 xs searched.3
refused_true (Some Upgrade) told input xs is (inl long) = let e : status.Refused ≡ status.Limit = long.1 in cc
refused_true (Some Upgrade) told input xs is (inr upgraded) = upgrade_refuses_not upgraded.1 xs upgraded.3
refused_true (Some Sat) told input xs is (inl long) = absurd (let e : status.Refused ≡ status.Limit = long.1 in cc)
refused_true (Some Sat) told input xs is (inr asked) = (input, is, refusal_impossible input asked.1 xs asked.2 asked.3)
refused_true (Some Model) told input xs is (inl long) = absurd (let e : status.Refused ≡ status.Limit = long.1 in cc)
refused_true (Some Model) told input xs is (inr modelled) = (input, is, refusal_fails input xs modelled)
refused_true (Some (Disprove cells)) told input xs is (inl long) = let e : status.Refused ≡ status.Limit = long.1 in cc
refused_true (Some (Disprove cells)) told input xs is (inr disproved) = disprove_refuses_not cells input xs disproved
refused_true (Some (FirstOrderProve depth)) told input xs is (inl long) = let e : status.Refused ≡ status.Limit = long.1
    in cc
refused_true (Some (FirstOrderProve depth)) told input xs is (inr searched)
    = first_order_search.searched_refuses_not depth input xs searched
refused_true (Some FirstOrderCheck) told input xs is (inl long) = absurd
    (let e : status.Refused ≡ status.Limit = long.1 in cc)
refused_true (Some FirstOrderCheck) told input xs is (inr checked) = (input, is, first_order_incorrect input xs checked)
refused_true (Some (Ring k)) told input xs is answer = let e : status.Refused ≡ status.Success = answer.0 in cc

-- an answer of refusal is true
pub refusal_true : (task : Option Task) (told : Option (List ℕ)) (s : Status) (xs : List ℕ) → Answers task told s xs
    → s ≡ status.Refused → IsRefusal task told
refusal_true task told s xs answer e =
    refused_true task told answer.0 xs answer.1 (subst (λ s. IsAnswer task answer.0 s xs) e answer.2)

-- an answer of success is true
pub answered_true : (task : Option Task) (told : Option (List ℕ)) (s : Status) (xs : List ℕ) → Answers task told s xs
    → s ≡ status.Success → IsHeadline task told
answered_true task told s xs answer e =
    success_true task told answer.0 xs answer.1 (subst (λ s. IsAnswer task answer.0 s xs) e answer.2)

-- ---- searches

-- what a search with success writes, a check accepts
success_accepted : (depth : ℕ) (p : Problem) (a : Proved) (text : List ℕ) → IsProved p a
    → status.Success ≡ proved_status a → text ≡ proved_text depth a → length text ≤ input_limit
    → (line : List ℕ) × IsAnswer (Some Check) text status.Success line
success_accepted depth p (Found f) text is e said short = proof_accepted p f text is said short
success_accepted depth p NotFound text is e said short = absurd cc
success_accepted depth p TooManyDerivations text is e said short = absurd cc
success_accepted depth p answers.TooManyStates text is e said short = absurd cc

search_accepted : (depth : ℕ) (r : Result Problem ReadFault) (text : List ℕ)
    → IsSearchAnswer depth r status.Success text → length text ≤ input_limit
    → (line : List ℕ) × IsAnswer (Some Check) text status.Success line
search_accepted depth (Ok p)
    text answer short = success_accepted depth p answer.0 text answer.1.1 answer.2 answer.3 short
search_accepted depth (Err fault) text answer short = absurd (fault_fails fault answer.0)

task_accepted : (depth : ℕ) (input text : List ℕ) → IsAnswer (Some (Prove depth)) input status.Success text
    → length text ≤ input_limit → (line : List ℕ) × IsAnswer (Some Check) text status.Success line
task_accepted depth input text (inl long) short = absurd (let e : status.Success ≡ status.Limit = long.1 in cc)
task_accepted depth input text (inr searched) short = search_accepted depth searched.1 text searched.3 short

-- a search that ended with success wrote a proof
pub wrote_proof : (depth : ℕ) (task : Option Task) (told old new : Option (List ℕ)) (s : Status) (text : List ℕ)
    → task ≡ Some (Prove depth) → Answers task told s text → s ≡ status.Success → Appends old new text
    → WroteProof old new
wrote_proof depth task told old new s text is answer e wrote = (
  text,
  wrote,
  task_accepted depth answer.0 text (subst (λ t. IsAnswer t answer.0 status.Success text) is
      (subst (λ s. IsAnswer task answer.0 s text) e answer.2)),
)

search_finds : (depth : ℕ) (r : Result Problem ReadFault) (q : Problem) (d : List Reason) (s : Status) (text : List ℕ)
    → AreAlike problems.AreSame r (Ok q) → search_of (search_for q) derivation_limit depth ≡ IsFound d
    → IsSearchAnswer depth r s text → s ≡ status.Success
search_finds depth (Ok p) q d s text same found answer = answer.2
    ∙ found_search depth p q answer.0 d same answer.1.0 found
search_finds depth (Err fault) q d s text same found answer = absurd same

task_finds : (depth : ℕ) (input : List ℕ) (q : Problem) (d : List Reason) (s : Status) (text : List ℕ)
    → length input ≤ input_limit → problems.IsRead input (Ok q)
    → search_of (search_for q) derivation_limit depth ≡ IsFound d → IsAnswer (Some (Prove depth)) input s text
    → s ≡ status.Success
task_finds depth input q d s text short is found (inl long) = absurd (omega (arith, long.0))
task_finds depth input q d s text short is found (inr searched) =
    search_finds depth searched.1 q d s text (one_problem_reading input searched.1 (Ok q) searched.2 is)
    found searched.3

-- a search that finds within its limits is answered with success
pub found_succeeds : (depth : ℕ) (task : Option Task) (told : Option (List ℕ)) (input : List ℕ) (q : Problem)
    (d : List Reason) (s : Status) (text : List ℕ) → task ≡ Some (Prove depth) → told ≡ Some input
    → length input ≤ input_limit → problems.IsRead input (Ok q)
    → search_of (search_for q) derivation_limit depth ≡ IsFound d → Answers task told s text → s ≡ status.Success
found_succeeds depth task told input q d s text is e short read found answer =
    task_finds depth input q d s text short read found
    (subst (λ t. IsAnswer t input s text) is (answer_for task told input s text e answer))

-- ---- checks

-- a check of a correct file with few states is answered with success
pub correct_succeeds : (task : Option Task) (told : Option (List ℕ)) (input : List ℕ) (g : ProofFile) (s : Status)
    (text : List ℕ) → task ≡ Some Check → told ≡ Some input → length input ≤ input_limit → IsRead input (Ok g)
    → IsCorrect g → HasAtMost (file_graph g) state_limit → Answers task told s text → s ≡ status.Success
correct_succeeds task told input g s text is e short read correct few answer =
    checks.check_accepts input g s text short read correct few
    (subst (λ t. IsAnswer t input s text) is (answer_for task told input s text e answer))

-- the same of a first-order proof
first_order_accepts : (input : List ℕ) (g : FoFile) (s : Status) (text : List ℕ) → length input ≤ input_limit
    → first_order.IsRead input (Ok g) → first_order_verdicts.IsCorrect g
    → HasAtMost (first_order_verdicts.file_graph g) state_limit → IsAnswer (Some FirstOrderCheck) input s text
    → s ≡ status.Success
first_order_accepts input g s text short is correct few (inl long) = absurd (omega (arith, long.0))
first_order_accepts input g s text short is correct few (inr checked)
    = correct_accepted input g s text is correct few checked

pub correct_first_order : (task : Option Task) (told : Option (List ℕ)) (input : List ℕ) (g : FoFile) (s : Status)
    (text : List ℕ) → task ≡ Some FirstOrderCheck → told ≡ Some input → length input ≤ input_limit
    → first_order.IsRead input (Ok g) → first_order_verdicts.IsCorrect g
    → HasAtMost (first_order_verdicts.file_graph g) state_limit → Answers task told s text → s ≡ status.Success
correct_first_order task told input g s text is e short read correct few answer =
    first_order_accepts input g s text short read correct few
    (subst (λ t. IsAnswer t input s text) is (answer_for task told input s text e answer))

-- ---- searches in first-order logic

first_order_accepted : (depth : ℕ) (input text : List ℕ)
    → IsAnswer (Some (FirstOrderProve depth)) input status.Success text → length text ≤ input_limit
    → (line : List ℕ) × IsAnswer (Some FirstOrderCheck) text status.Success line
first_order_accepted depth input text (inl long) short = absurd (let e : status.Success ≡ status.Limit = long.1 in cc)
first_order_accepted depth input text (inr searched) short =
    let checked = first_order_search.found_is_checked depth input text searched short in (checked.0, inr checked.1)

-- a search that ended with success wrote a proof
pub wrote_first_order : (depth : ℕ) (task : Option Task) (told old new : Option (List ℕ)) (s : Status) (text : List ℕ)
    → task ≡ Some (FirstOrderProve depth) → Answers task told s text → s ≡ status.Success → Appends old new text
    → WroteFirstOrderProof old new
wrote_first_order depth task told old new s text is answer e wrote = (
  text,
  wrote,
  first_order_accepted depth answer.0 text (subst (λ t. IsAnswer t answer.0 status.Success text) is
      (subst (λ s. IsAnswer task answer.0 s text) e answer.2)),
)

first_order_finds : (depth : ℕ) (input : List ℕ) (q : FoProblem) (d : List FoReason) (s : Status) (text : List ℕ)
    → length input ≤ input_limit → first_order.IsReadProblem input (Ok q)
    → search_of (first_order_searches.search_for q) derivation_limit depth ≡ IsFound d
    → IsAnswer (Some (FirstOrderProve depth)) input s text → s ≡ status.Success
first_order_finds depth input q d s text short is found (inl long) = absurd (omega (arith, long.0))
first_order_finds depth input q d s text short is found (inr searched)
    = first_order_search.search_finds depth input q d s text is found searched

-- a search that finds within its limits is answered with success
pub first_order_succeeds : (depth : ℕ) (task : Option Task) (told : Option (List ℕ)) (input : List ℕ) (q : FoProblem)
    (d : List FoReason) (s : Status) (text : List ℕ) → task ≡ Some (FirstOrderProve depth) → told ≡ Some input
    → length input ≤ input_limit → first_order.IsReadProblem input (Ok q)
    → search_of (first_order_searches.search_for q) derivation_limit depth ≡ IsFound d → Answers task told s text
    → s ≡ status.Success
first_order_succeeds depth task told input q d s text is e short read found answer =
    first_order_finds depth input q d s text short read found
    (subst (λ t. IsAnswer t input s text) is (answer_for task told input s text e answer))

-- ---- counter-models

-- what is written of a counter-model is a model of its formula
counter_holds : (cells : ℕ) (input text : List ℕ) → IsAnswer (Some (Disprove cells)) input status.Success text
    → length text ≤ input_limit → (line : List ℕ) × IsAnswer (Some Model) text status.Success line
counter_holds cells input text (inl long) short = absurd (let e : status.Success ≡ status.Limit = long.1 in cc)
counter_holds cells input text (inr disproved) short = (holds_text, inr (model_holds cells input text disproved short))

pub wrote_model : (cells : ℕ) (task : Option Task) (told old new : Option (List ℕ)) (s : Status) (text : List ℕ)
    → task ≡ Some (Disprove cells) → Answers task told s text → s ≡ status.Success → Appends old new text
    → WroteModel old new
wrote_model cells task told old new s text is answer e wrote = (
  text,
  wrote,
  counter_holds cells answer.0 text (subst (λ t. IsAnswer t answer.0 status.Success text) is
      (subst (λ s. IsAnswer task answer.0 s text) e answer.2)),
)

-- where none is found there is none
none_there : (cells : ℕ) (told : Option (List ℕ)) (input xs : List ℕ) → IsTold told input
    → IsAnswer (Some (Disprove cells)) input status.NotFound xs → IsUnrefuted cells told
none_there cells told input xs is (inl long) = absurd (let e : status.NotFound ≡ status.Limit = long.1 in cc)
none_there cells told input xs is (inr disproved) = (input, is, none_found cells input xs disproved)

pub unrefuted_true : (cells : ℕ) (task : Option Task) (told : Option (List ℕ)) (s : Status) (xs : List ℕ)
    → task ≡ Some (Disprove cells) → Answers task told s xs → s ≡ status.NotFound → IsUnrefuted cells told
unrefuted_true cells task told s xs is answer e =
    none_there cells told answer.0 xs answer.1 (subst (λ t. IsAnswer t answer.0 status.NotFound xs) is
    (subst (λ s. IsAnswer task answer.0 s xs) e answer.2))

-- ---- rings

-- a ring is answered with success
pub ring_succeeds : (k : ℕ) (task : Option Task) (told : Option (List ℕ)) (s : Status) (text : List ℕ)
    → task ≡ Some (Ring k) → Answers task told s text → s ≡ status.Success
ring_succeeds k task told s text is answer = (subst (λ t. IsAnswer t answer.0 s text) is answer.2).0

-- it needs no input
pub ring_reads_not : (k : ℕ) (task : Option Task) → task ≡ Some (Ring k) → reads_input task ≡ true → ⊥
ring_reads_not k task is reads = let e : false ≡ true = ap reads_input (sym is) ∙ reads in cc

-- ---- how a run ends, from what it wrote

-- what was written for a task was written for the words that mean it
pub wrote_as : (task meaning : Option Task) (told old new : Option (List ℕ)) (s : Status) → task ≡ meaning
    → (is_answer s ≡ true → WroteAnswer task told old new s) → is_answer s ≡ true → WroteAnswer meaning told old new s
wrote_as task meaning told old new s e wrote = subst (λ t. is_answer s ≡ true → WroteAnswer t told old new s) e wrote

module _ (task : Option Task) (told old new : Option (List ℕ)) (s : Status)
    (wrote : is_answer s ≡ true → WroteAnswer task told old new s) where
  -- what holds of each answer to the words holds of the run's
  pub ended_so : (reads writes : Type 0) (t : Status) → (s ≡ status.ReadFault → reads)
      → (s ≡ status.WriteFault → writes) → ¬ reads → ¬ writes → ((text : List ℕ) → Answers task told s text → s ≡ t)
      → (s ≡ t) ⊎ (s ≡ status.OutOfMemory)
  ended_so reads writes t read write quiet no_faults says =
      run_ended_so s reads writes (WroteAnswer task told old new s) (s ≡ t) wrote read write quiet no_faults
      (λ written. says written.0 written.1)

  -- success is true
  pub success_says : s ≡ status.Success → IsHeadline task told
  success_says e = let written = wrote (ap is_answer e) in answered_true task told s written.0 written.1 e

  -- so is a refusal
  pub refusal_says : s ≡ status.Refused → IsRefusal task told
  refusal_says e = let written = wrote (ap is_answer e) in refusal_true task told s written.0 written.1 e

  -- a search that ended with success wrote a proof
  pub success_wrote : (depth : ℕ) → task ≡ Some (Prove depth) → s ≡ status.Success → WroteProof old new
  success_wrote depth is e = let written = wrote (ap is_answer e) in
      wrote_proof depth task told old new s written.0 is written.1 e written.2

  -- so is a first-order proof by its check
  pub success_wrote_first_order : (depth : ℕ) → task ≡ Some (FirstOrderProve depth) → s ≡ status.Success
      → WroteFirstOrderProof old new
  success_wrote_first_order depth is e = let written = wrote (ap is_answer e) in
      wrote_first_order depth task told old new s written.0 is written.1 e written.2

  -- a counter-model that was written is a model of its formula
  pub success_models : (cells : ℕ) → task ≡ Some (Disprove cells) → s ≡ status.Success → WroteModel old new
  success_models cells is e = let written = wrote (ap is_answer e) in
      wrote_model cells task told old new s written.0 is written.1 e written.2

  -- where none was found there is none
  pub none_says : (cells : ℕ) → task ≡ Some (Disprove cells) → s ≡ status.NotFound → IsUnrefuted cells told
  none_says cells is e = let written = wrote (ap is_answer e) in
      unrefuted_true cells task told s written.0 is written.1 e

  -- a ring reads nothing, and no refusal comes
  pub ring_ends : (k : ℕ) → task ≡ Some (Ring k) → (s ≡ status.ReadFault → reads_input task ≡ true)
      → (s ≡ status.Success) ⊎ ((s ≡ status.WriteFault) ⊎ (s ≡ status.OutOfMemory))
  ring_ends k is asked = elim (ending_kind s) [
    | inl answers ↦ let written = wrote answers in inl (ring_succeeds k task told s written.0 is written.1)
    | inr (inl read) ↦ absurd (ring_reads_not k task is (asked read))
    | inr (inr (inl write)) ↦ inr (inl write)
    | inr (inr (inr memory)) ↦ inr (inr memory)
  ]
