-- The answer to a problem, to a run, to a script, to a question for a frame and to words.
use Rattle.std.specs.Prelude.{◌≡◌, ◌≢◌, ◌≤◌, ◌⊎◌, ℕ, Bool, true, false, List, [], ◌++◌, length, codes, Option, Some}
use Rattle.std.specs.Prelude.{None, Result, Ok, Err}
use Rattle.cyc_lex.specs.declared.fault.ReadFault.{ReadFault}
use Rattle.cyc_lex.specs.declared.fault.ReadFault.TheVariants as faults
use Rattle.cyc_runs.specs.declared.endings.Status.{Status}
use Rattle.cyc_runs.specs.declared.endings.Status.TheVariants as status
use Rattle.cyc_runs.specs.Faults.{fault_status, fault_text}
use Rattle.cyc_runs.specs.Runs.{Answering, IsAnswerOf, input_limit}
use Rattle.formula_reader.specs.declared.problem.Problem.{Problem}
use Rattle.formula_reader.specs.Reading as problems
use Rattle.heap_formula.specs.declared.judgements.Judgement.{Judgement}
use Rattle.heap_formula.specs.declared.judgements.Judgement.TheVariants.{Entail, Term as Halting}
use Rattle.model_file.specs.declared.file.Model.{Model}
use Rattle.model_file.specs.Written.{text_of_model}
use Rattle.proof_file.specs.declared.file.ProofFile.{ProofFile}
use Rattle.proof_file.specs.Written.{text_of_file}
use Rattle.run_file.specs.declared.file.RunFile.{RunFile}
use Rattle.command_answers.specs.Answers.{IsPossible}
use Rattle.script_answers.specs.Asking.{IsGoalOfInput}
use Rattle.script_answers.specs.Refusals.{is_refusal}
use Rattle.script_formulas.specs.declared.goals.question.Question.{Question}
use Rattle.script_formulas.specs.declared.goals.question.Question.TheVariants.{Entailment, Satisfiability}
use Rattle.run_file.specs.Reading as runs
use Rattle.run_file.specs.Written.{text_of_run}
use Rattle.solve_top.specs.Notes.{AreNotes}
use Rattle.solver.specs.declared.solution.Refutation.{Refutation}
use Rattle.solver.specs.declared.solution.Refutation.TheVariants.{CounterModel, FaultyRun}
use Rattle.solver.specs.declared.solution.Solution.{Solution}
use Rattle.solver.specs.declared.solution.Solution.TheVariants.{Proved, Impossible, Refuted, Unknown}
use Rattle.solver.specs.Runs.{IsRight}
use Rattle.solver.specs.Solutions.{IsSolution}
use Rattle.script_answers.specs.Begins.{is_script_text}
use Rattle.solve_top.specs.declared.findings.FoundFrame.{FoundFrame}
use Rattle.solve_top.specs.Frames.{HasNoFrame, IsFound}
use Rattle.frames.specs.Questions.{is_frame_text, plain_text}
use Rattle.solve_top.specs.Inputs.{is_run_text}
use Rattle.solve_top.specs.Words.{effort_of}

-- ---- the first lines

abbrev pub holds_line : List ℕ
holds_line = codes "holds\n"

abbrev pub impossible_line : List ℕ
impossible_line = codes "holds antecedent unsatisfiable\n"

abbrev pub fails_line : List ℕ
fails_line = codes "fails\n"

abbrev pub unknown_line : List ℕ
unknown_line = codes "unknown\n"

-- the line that says which words have a meaning
abbrev pub usage_text : List ℕ
usage_text = codes "usage: solve [--effort N]\n"

-- ---- problems

-- the text is the first line, notes, and the certificate
pub record IsCertified (first certificate text : List ℕ) : Type 0 where
  pub notes : List ℕ
  pub are_notes : AreNotes notes
  pub is : text ≡ first ++ (notes ++ certificate)

abbrev pub proof_text : ProofFile → List ℕ
proof_text f = text_of_file f.version f.defs.list f.program f.nodes

abbrev pub model_text : Model → List ℕ
model_text m = text_of_model m.version m.defs.list m.stack m.heap m.ask

abbrev pub run_text : RunFile → List ℕ
run_text r =
    text_of_run r.version r.defs.list r.program r.line r.precondition r.stack r.heap r.picks.items r.outcome

-- the file of what refutes
abbrev pub text_of_refutation : Refutation → List ℕ
text_of_refutation (CounterModel m) = model_text m
text_of_refutation (FaultyRun r) = run_text r

-- how what is found is told
abbrev pub IsSaid : Solution → Status → List ℕ → Type 0
IsSaid (Proved found) ending text = (ending ≡ status.Success) × IsCertified holds_line (proof_text found.file) text
IsSaid Impossible ending text = (ending ≡ status.Success) × IsCertified impossible_line [] text
IsSaid (Refuted refutation) ending text = (ending ≡ status.Refused)
    × IsCertified fails_line (text_of_refutation refutation) text
IsSaid (Unknown stuck) ending text = (ending ≡ status.NotFound) × IsCertified unknown_line [] text

-- an input with this fault is answered by the line of the fault, and by what explains it
pub record IsExplained (fault : ReadFault) (ending : Status) (text : List ℕ) : Type 0 where
  pub known : fault ≢ faults.OutOfMemory
  pub ends : ending ≡ fault_status fault
  pub explanation : List ℕ
  pub says : text ≡ fault_text fault ++ explanation

abbrev pub IsProblemAnswer : Result Problem ReadFault → Status → List ℕ → Type 0
IsProblemAnswer (Ok problem) ending text = (found : Solution) × IsSolution problem found × IsSaid found ending text
IsProblemAnswer (Err fault) ending text = IsExplained fault ending text

-- ---- runs

-- whether the run is as its file tells; that is not known where too many choices would have to be tried
abbrev pub IsRerun : RunFile → Status → List ℕ → Type 0
IsRerun r ending text =
    (IsRight r × (ending ≡ status.Success) × (text ≡ holds_line))
    ⊎ (((¬ IsRight r) × (ending ≡ status.Refused) × (text ≡ fails_line))
    ⊎ ((ending ≡ status.NotFound) × (text ≡ unknown_line)))

abbrev pub IsRunAnswer : Result RunFile ReadFault → Status → List ℕ → Type 0
IsRunAnswer (Ok r) ending text = IsRerun r ending text
IsRunAnswer (Err fault) ending text = IsExplained fault ending text

-- ---- scripts

abbrev pub unsat_line : List ℕ
unsat_line = codes "unsat\n"

abbrev pub sat_line : List ℕ
sat_line = codes "sat\n"

-- how a run ends that says so of a script with this question: an entailment that holds is unsatisfiable
abbrev pub unsat_status : Question → Status
unsat_status Entailment = status.Success
unsat_status Satisfiability = status.Refused

abbrev pub sat_status : Question → Status
sat_status Entailment = status.Refused
sat_status Satisfiability = status.Success

-- the text is the first line, notes, the text of a problem, and the certificate
pub record IsAsked (first problem certificate text : List ℕ) : Type 0 where
  pub notes : List ℕ
  pub are_notes : AreNotes notes
  pub is : text ≡ first ++ (notes ++ (problem ++ certificate))

-- how what is found of the problem with this text is told
abbrev pub IsScriptSaid : Question → List ℕ → Solution → Status → List ℕ → Type 0
IsScriptSaid question spelled (Proved found) ending text = (ending ≡ unsat_status question)
    × IsAsked unsat_line spelled (proof_text found.file) text
IsScriptSaid question spelled Impossible ending text = (ending ≡ unsat_status question)
    × IsAsked unsat_line spelled [] text
IsScriptSaid question spelled (Refuted refutation) ending text = (ending ≡ sat_status question)
    × IsAsked sat_line spelled (text_of_refutation refutation) text
IsScriptSaid question spelled (Unknown stuck) ending text = (ending ≡ status.NotFound)
    × IsAsked unknown_line spelled [] text

-- some stack and heap satisfy the antecedent of the problem that asks a satisfiability, or none do, and this is told
abbrev pub IsPossibilitySaid : Question → Problem → List ℕ → Status → List ℕ → Type 0
IsPossibilitySaid Entailment problem spelled ending text = ⊥
IsPossibilitySaid Satisfiability problem spelled ending text =
    (IsPossible problem × (ending ≡ status.Success) × IsAsked sat_line spelled [] text)
    ⊎ ((¬ IsPossible problem) × (ending ≡ status.Refused) × IsAsked unsat_line spelled [] text)

abbrev pub is_entailment : Judgement → Bool
is_entailment (Entail a bs) = true
is_entailment (Halting i a) = false

-- the text of a problem that asks what the script does is told, and what is found of it
pub record IsSolvedScript (input : List ℕ) (ending : Status) (text : List ℕ) : Type 0 where
  pub question : Question
  pub problem : Problem
  pub asks : IsGoalOfInput input question problem.defs.list problem.goal
  pub spelled : List ℕ
  pub is_problem : problems.IsRead spelled (Ok problem)
  pub said : ((found : Solution) × IsSolution problem found × (is_entailment problem.goal ≡ true)
      × IsScriptSaid question spelled found ending text) ⊎ IsPossibilitySaid question problem spelled ending text

-- a script is refused, or the problem is told that it became
abbrev pub IsScriptAnswer : List ℕ → Status → List ℕ → Type 0
IsScriptAnswer input ending text = (is_refusal ending ≡ true) ⊎ IsSolvedScript input ending text

-- ---- frames

-- a problem is told that says what is left, and a proof of its goal; and something satisfies the antecedent
pub record IsFrameTold (problem : Problem) (text : List ℕ) : Type 0 where
  pub found : FoundFrame
  pub is_found : IsFound problem found
  pub possible : IsPossible problem
  pub said : IsAsked holds_line found.text.items (proof_text found.proof.file) text

-- a model of the antecedent is told no part of which satisfies what is asked for
abbrev pub IsNoFrameTold : Problem → List ℕ → Type 0
IsNoFrameTold problem text = (m : Model) × HasNoFrame problem m × IsCertified fails_line (model_text m) text

-- how what is found of a question is told: a frame, or that nothing satisfies the antecedent, or that there is no frame,
-- or that nothing is known
abbrev pub IsFrameSaid : Problem → Status → List ℕ → Type 0
IsFrameSaid problem ending text =
    ((ending ≡ status.Success) × IsFrameTold problem text)
    ⊎ (((ending ≡ status.Success) × (¬ IsPossible problem) × IsCertified impossible_line [] text)
    ⊎ (((ending ≡ status.Refused) × IsNoFrameTold problem text)
    ⊎ ((ending ≡ status.NotFound) × IsCertified unknown_line [] text)))

abbrev pub IsQuestionAnswer : Result Problem ReadFault → Status → List ℕ → Type 0
IsQuestionAnswer (Ok problem) ending text = IsFrameSaid problem ending text
IsQuestionAnswer (Err fault) ending text = IsExplained fault ending text

-- the question speaks of the problem that the plain text spells, or the plain text has this fault
abbrev pub IsFrameAnswer : List ℕ → Status → List ℕ → Type 0
IsFrameAnswer input ending text = (read : Result Problem ReadFault) × problems.IsRead (plain_text input) read
    × IsQuestionAnswer read ending text

-- ---- inputs and words

-- an input that begins as a run file is read as one, any other as a problem
abbrev pub IsAnswerTo : Bool → List ℕ → Status → List ℕ → Type 0
IsAnswerTo true input ending text =
    (read : Result RunFile ReadFault) × runs.IsRead input read × IsRunAnswer read ending text
IsAnswerTo false input ending text =
    (read : Result Problem ReadFault) × problems.IsRead input read × IsProblemAnswer read ending text

-- an input that asks for a frame is read as such a question
abbrev pub IsAnswerToAsked : Bool → List ℕ → Status → List ℕ → Type 0
IsAnswerToAsked true input ending text = IsFrameAnswer input ending text
IsAnswerToAsked false input ending text = IsAnswerTo (is_run_text input) input ending text

-- an input that begins as a script is read as one
abbrev pub IsInputAnswer : Bool → List ℕ → Status → List ℕ → Type 0
IsInputAnswer true input ending text = IsScriptAnswer input ending text
IsInputAnswer false input ending text = IsAnswerToAsked (is_frame_text input) input ending text

abbrev pub IsSolved : Answering
IsSolved input ending text = (length input ≤ input_limit) × IsInputAnswer (is_script_text input) input ending text

-- words that ask for an effort have the input solved; all others give the usage
abbrev pub IsAnswerWith : Option ℕ → Answering
IsAnswerWith (Some effort) = IsAnswerOf IsSolved
IsAnswerWith None = λ input ending text. (ending ≡ status.Usage) × (text ≡ usage_text)

abbrev pub IsAnswer : List (List ℕ) → Answering
IsAnswer words = IsAnswerWith (effort_of words)

-- ---- one input, two runs

-- a run with this status has answered: yes, no, or that nothing is known
abbrev pub has_answered : Status → Bool
has_answered status.Success = true
has_answered status.Refused = true
has_answered status.NotFound = true
has_answered _ = false

-- two runs end with one status, or one of them has answered where the other knows nothing
abbrev pub EndAlike : Status → Status → Type 0
EndAlike s t =
    (s ≡ t) ⊎ ((has_answered s ≡ true) × (has_answered t ≡ true) × ((s ≡ status.NotFound) ⊎ (t ≡ status.NotFound)))
