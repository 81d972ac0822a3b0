-- What a run has written that ends with success, or with a refusal.
use Rattle.std.proofs.Common.{◌≡◌, ◌⊎◌, ℕ, List, [], ◌++◌, refl, inl, inr, Bool, true, false, Option}
use Rattle.std.specs.Prelude.{Result, Ok, Err}
use Rattle.cyc_lex.specs.declared.fault.ReadFault.{ReadFault}
use Rattle.cyc_runs.specs.declared.endings.Status.TheVariants as status
use Rattle.cyc_runs.specs.Runs.{IsAnswerOf, WroteAnswer}
use Rattle.cyc_runs.proofs.WaysToEnd.{fault_fails, fault_is_no_refusal}
use Rattle.formula_reader.specs.declared.problem.Problem.{Problem}
use Rattle.formula_reader.specs.Reading as problems
use Rattle.model_file.specs.declared.file.Model.{Model}
use Rattle.model_file.specs.Reading as models
use Rattle.model_file.proofs.Readings as model_readings
use Rattle.proof_file.specs.declared.file.ProofFile.{ProofFile}
use Rattle.proof_file.specs.Reading as files
use Rattle.proof_file.proofs.TextReadings as proof_readings
use Rattle.run_file.specs.declared.file.RunFile.{RunFile}
use Rattle.run_file.specs.Reading as runs
use Rattle.run_file.proofs.Readings as run_readings
use Rattle.solve_top.proofs.PassedOver.{notes-passed-over}
use Rattle.solver.specs.declared.solution.Refutation.{Refutation}
use Rattle.solver.specs.declared.solution.Refutation.TheVariants.{CounterModel, FaultyRun}
use Rattle.solver.specs.declared.solution.Solution.{Solution}
use Rattle.solver.specs.declared.solution.Solution.TheVariants.{Proved, Impossible, Refuted, Unknown}
use Rattle.solver.specs.Solutions.{IsCheckedProof, IsCounterModel, IsFaultyRun, IsRefutation, IsSolution}
use Rattle.script_answers.specs.Begins.{is_script_text}
use Rattle.solve_top.specs.Inputs.{is_run_text}
use Rattle.frames.specs.Questions.{is_frame_text, plain_text}
use Rattle.solve_top.specs.Answers.{IsAnswerTo, IsAnswerToAsked, IsCertified, IsFrameSaid, IsFrameTold}
use Rattle.solve_top.specs.Answers.{IsInputAnswer, IsProblemAnswer, IsQuestionAnswer, IsRerun, IsRunAnswer}
use Rattle.solve_top.specs.Answers.{IsSaid, IsSolved, fails_line, holds_line, impossible_line, model_text, proof_text}
use Rattle.solve_top.specs.Answers.{run_text, text_of_refutation}
use Rattle.command_answers.specs.Answers.{IsPossible}
use Rattle.solve_top.specs.Written.{GoalFails, GoalHolds, IsModelText, IsProofText, IsRunText, RunFails, RunHolds}
use Rattle.solve_top.specs.Written.{FrameFails, FrameHolds, IsFrameText, ScriptIsSolved, WroteFails, WroteHolds}
use Rattle.solve_top.specs.Notes.{AreNotes}
use Rattle.solve_top.proofs.FrameLaws.{no_frame_holds}
use Rattle.solve_top.proofs.ScriptLaws.{script_is_solved}

-- ---- certificates are read

right_text : (p : Problem) (f : ProofFile) (text : List ℕ) → IsCheckedProof p f
    → IsCertified holds_line (proof_text f) text → IsProofText p text
right_text p f text proof said = record {
  file = f;
  proof = proof;
  certificate = said.notes ++ proof_text f;
  is = said.is;
  is_file = notes-passed-over said.notes (proof_text f) said.are_notes files.proof_files f
      (proof_readings.text_is_read f);
}

model_is_read : (notes : List ℕ) (m : Model) → AreNotes notes → models.IsRead (notes ++ model_text m) (Ok m)
model_is_read notes m are = notes-passed-over notes (model_text m) are models.model_files m
    (model_readings.text_is_read m)

counter_text : (p : Problem) (m : Model) (text : List ℕ) → IsCounterModel p m
    → IsCertified fails_line (model_text m) text → IsModelText p text
counter_text p m text counter said = record {
  model = m;
  counter = counter;
  certificate = said.notes ++ model_text m;
  is = said.is;
  is_file = model_is_read said.notes m said.are_notes;
}

faulty_text : (p : Problem) (r : RunFile) (text : List ℕ) → IsFaultyRun p r → IsCertified fails_line (run_text r) text
    → IsRunText p text
faulty_text p r text faulty said = record {
  run = r;
  faulty = faulty;
  certificate = said.notes ++ run_text r;
  is = said.is;
  is_file = notes-passed-over said.notes (run_text r) said.are_notes runs.run_files r (run_readings.text_is_read r);
}

-- ---- success

solution_holds : (input text : List ℕ) (p : Problem) (found : Solution) → problems.IsRead input (Ok p)
    → IsSolution p found → IsSaid found status.Success text → GoalHolds input text
solution_holds input text p (Proved found) is proof said = record
    { problem = p; is_problem = is; holds = proof.holds; shown = inl (right_text p found.file text proof said.1) }
solution_holds input text p Impossible is impossible said = record
    { problem = p; is_problem = is; holds = impossible.holds; shown = inr (impossible, said.1) }
solution_holds input text p (Refuted refutation) is refuted said = absurd
    (let h : status.Success ≡ status.Refused = said.0 in cc)
solution_holds input text p (Unknown stuck) is none said = absurd
    (let h : status.Success ≡ status.NotFound = said.0 in cc)

problem_holds : (input text : List ℕ) (read : Result Problem ReadFault) → problems.IsRead input read
    → IsProblemAnswer read status.Success text → GoalHolds input text
problem_holds input text (Ok p) is answer = solution_holds input text p answer.0 is answer.1 answer.2
problem_holds input text (Err fault) is answer = absurd (fault_fails fault answer.ends)

rerun_holds : (input text : List ℕ) (r : RunFile) → runs.IsRead input (Ok r) → IsRerun r status.Success text
    → RunHolds input
rerun_holds input text r is (inl right) = record { run = r; is_run = is; right = right.0 }
rerun_holds input text r is (inr (inl wrong)) = absurd (let h : status.Success ≡ status.Refused = wrong.1 in cc)
rerun_holds input text r is (inr (inr unknown)) = absurd (let h : status.Success ≡ status.NotFound = unknown.0 in cc)

run_holds : (input text : List ℕ) (read : Result RunFile ReadFault) → runs.IsRead input read
    → IsRunAnswer read status.Success text → RunHolds input
run_holds input text (Ok r) is answer = rerun_holds input text r is answer
run_holds input text (Err fault) is answer = absurd (fault_fails fault answer.ends)

either_holds : (b : Bool) (input text : List ℕ) → IsAnswerTo b input status.Success text
    → GoalHolds input text ⊎ RunHolds input
either_holds true input text answer = inr (run_holds input text answer.0 answer.1 answer.2)
either_holds false input text answer = inl (problem_holds input text answer.0 answer.1 answer.2)

-- ---- frames

framed_text : (p : Problem) (text : List ℕ) → IsFrameTold p text → IsFrameText p text
framed_text p text told = record {
  framed = told.found.problem;
  is_frame = told.is_found.is_frame;
  certificate = proof_text told.found.proof.file;
  over = record {
    notes = told.said.notes;
    are_notes = told.said.are_notes;
    spelled = told.found.text.items;
    is_problem = told.is_found.is_problem;
    is = told.said.is;
  };
  file = told.found.proof.file;
  proof = told.is_found.proof;
  is_file = proof_readings.text_is_read told.found.proof.file;
  possible = told.possible;
}

frame_holds : (input text : List ℕ) → is_frame_text input ≡ true → (read : Result Problem ReadFault)
    → problems.IsRead (plain_text input) read → IsQuestionAnswer read status.Success text → FrameHolds input text
frame_holds input text asks (Ok p) is answer =
    record { asks = asks; problem = p; is_problem = is; shown = shown answer }
  where
    shown : IsFrameSaid p status.Success text → IsFrameText p text ⊎ ((¬ IsPossible p)
        × IsCertified impossible_line [] text)
    shown (inl told) = inl (framed_text p text told.1)
    shown (inr (inl impossible)) = inr (impossible.1, impossible.2)
    shown (inr (inr (inl none))) = absurd (let h : status.Success ≡ status.Refused = none.0 in cc)
    shown (inr (inr (inr unknown))) = absurd (let h : status.Success ≡ status.NotFound = unknown.0 in cc)
frame_holds input text asks (Err fault) is answer = absurd (fault_fails fault answer.ends)

frame_fails : (input text : List ℕ) → is_frame_text input ≡ true → (read : Result Problem ReadFault)
    → problems.IsRead (plain_text input) read → IsQuestionAnswer read status.Refused text → FrameFails input text
frame_fails input text asks (Ok p) is answer = shown answer
  where
    shown : IsFrameSaid p status.Refused text → FrameFails input text
    shown (inl told) = absurd (let h : status.Refused ≡ status.Success = told.0 in cc)
    shown (inr (inl impossible)) = absurd (let h : status.Refused ≡ status.Success = impossible.0 in cc)
    shown (inr (inr (inl none))) =
        let m = none.1.0 in
        let said = none.1.2 in
        record {
          asks = asks;
          problem = p;
          is_problem = is;
          fails = no_frame_holds p m none.1.1;
          model = m;
          none = none.1.1;
          certificate = said.notes ++ model_text m;
          is = said.is;
          is_file = model_is_read said.notes m said.are_notes;
        }
    shown (inr (inr (inr unknown))) = absurd (let h : status.Refused ≡ status.NotFound = unknown.0 in cc)
frame_fails input text asks (Err fault) is answer = absurd (fault_is_no_refusal fault answer.ends)

-- what a success shows of an input
abbrev Holding : List ℕ → List ℕ → Type 0
Holding input text = GoalHolds input text ⊎ (RunHolds input ⊎ (ScriptIsSolved input text ⊎ FrameHolds input text))

asked_holds : (b : Bool) (input text : List ℕ) → is_frame_text input ≡ b
    → IsAnswerToAsked b input status.Success text → Holding input text
asked_holds true input text is answer =
    inr (inr (inr (frame_holds input text is answer.0 answer.1 answer.2)))
asked_holds false input text is answer =
    elim (either_holds (is_run_text input) input text answer) as (λ _. Holding input text)
    [ inl goal ↦ inl goal | inr run ↦ inr (inl run) ]

any_holds : (b : Bool) (input text : List ℕ) → is_script_text input ≡ b → IsInputAnswer b input status.Success text
    → Holding input text
any_holds true input text is answer =
    inr (inr (inl (script_is_solved input text status.Success is refl (inl refl) answer)))
any_holds false input text is answer = asked_holds (is_frame_text input) input text refl answer

input_holds : (input text : List ℕ) → IsAnswerOf IsSolved input status.Success text → Holding input text
input_holds input text (inl long) = absurd (let h : status.Success ≡ status.Limit = long.1 in cc)
input_holds input text (inr solved) = any_holds (is_script_text input) input text refl solved.1

pub wrote_holds : (told old new : Option (List ℕ)) → WroteAnswer (IsAnswerOf IsSolved) told old new status.Success
    → WroteHolds told old new
wrote_holds told old new wrote = (wrote.1.0, wrote.0, wrote.1.1, wrote.2, input_holds wrote.1.0 wrote.0 wrote.1.2)

-- ---- a refusal

refutation_fails : (input text : List ℕ) (p : Problem) (refutation : Refutation) → problems.IsRead input (Ok p)
    → IsRefutation p refutation → IsCertified fails_line (text_of_refutation refutation) text → GoalFails input text
refutation_fails input text p (CounterModel m) is counter said = record
    { problem = p; is_problem = is; fails = counter.fails; shown = inl (counter_text p m text counter said) }
refutation_fails input text p (FaultyRun r) is faulty said = record
    { problem = p; is_problem = is; fails = faulty.fails; shown = inr (faulty_text p r text faulty said) }

solution_fails : (input text : List ℕ) (p : Problem) (found : Solution) → problems.IsRead input (Ok p)
    → IsSolution p found → IsSaid found status.Refused text → GoalFails input text
solution_fails input text p (Proved found) is proof said = absurd
    (let h : status.Refused ≡ status.Success = said.0 in cc)
solution_fails input text p Impossible is impossible said = absurd
    (let h : status.Refused ≡ status.Success = said.0 in cc)
solution_fails input text p (Refuted refutation)
    is refuted said = refutation_fails input text p refutation is refuted said.1
solution_fails input text p (Unknown stuck) is none said = absurd
    (let h : status.Refused ≡ status.NotFound = said.0 in cc)

problem_fails : (input text : List ℕ) (read : Result Problem ReadFault) → problems.IsRead input read
    → IsProblemAnswer read status.Refused text → GoalFails input text
problem_fails input text (Ok p) is answer = solution_fails input text p answer.0 is answer.1 answer.2
problem_fails input text (Err fault) is answer = absurd (fault_is_no_refusal fault answer.ends)

rerun_fails : (input text : List ℕ) (r : RunFile) → runs.IsRead input (Ok r) → IsRerun r status.Refused text
    → RunFails input
rerun_fails input text r is (inl right) = absurd (let h : status.Refused ≡ status.Success = right.1 in cc)
rerun_fails input text r is (inr (inl wrong)) = record { run = r; is_run = is; wrong = wrong.0 }
rerun_fails input text r is (inr (inr unknown)) = absurd (let h : status.Refused ≡ status.NotFound = unknown.0 in cc)

run_fails : (input text : List ℕ) (read : Result RunFile ReadFault) → runs.IsRead input read
    → IsRunAnswer read status.Refused text → RunFails input
run_fails input text (Ok r) is answer = rerun_fails input text r is answer
run_fails input text (Err fault) is answer = absurd (fault_is_no_refusal fault answer.ends)

either_fails : (b : Bool) (input text : List ℕ) → IsAnswerTo b input status.Refused text
    → GoalFails input text ⊎ RunFails input
either_fails true input text answer = inr (run_fails input text answer.0 answer.1 answer.2)
either_fails false input text answer = inl (problem_fails input text answer.0 answer.1 answer.2)

-- what a refusal shows of an input
abbrev Failing : List ℕ → List ℕ → Type 0
Failing input text = GoalFails input text ⊎ (RunFails input ⊎ (ScriptIsSolved input text ⊎ FrameFails input text))

asked_fails : (b : Bool) (input text : List ℕ) → is_frame_text input ≡ b
    → IsAnswerToAsked b input status.Refused text → Failing input text
asked_fails true input text is answer =
    inr (inr (inr (frame_fails input text is answer.0 answer.1 answer.2)))
asked_fails false input text is answer =
    elim (either_fails (is_run_text input) input text answer) as (λ _. Failing input text)
    [ inl goal ↦ inl goal | inr run ↦ inr (inl run) ]

any_fails : (b : Bool) (input text : List ℕ) → is_script_text input ≡ b → IsInputAnswer b input status.Refused text
    → Failing input text
any_fails true input text is answer =
    inr (inr (inl (script_is_solved input text status.Refused is refl (inr refl) answer)))
any_fails false input text is answer = asked_fails (is_frame_text input) input text refl answer

input_fails : (input text : List ℕ) → IsAnswerOf IsSolved input status.Refused text → Failing input text
input_fails input text (inl long) = absurd (let h : status.Refused ≡ status.Limit = long.1 in cc)
input_fails input text (inr solved) = any_fails (is_script_text input) input text refl solved.1

pub wrote_fails : (told old new : Option (List ℕ)) → WroteAnswer (IsAnswerOf IsSolved) told old new status.Refused
    → WroteFails told old new
wrote_fails told old new wrote = (wrote.1.0, wrote.0, wrote.1.1, wrote.2, input_fails wrote.1.0 wrote.0 wrote.1.2)
