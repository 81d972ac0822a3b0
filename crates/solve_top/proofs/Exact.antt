-- Two answers to one input are alike.
use Rattle.std.proofs.Common.{◌≡◌, ◌∙◌, ◌⊎◌, ap, arith, ℕ, List, inl, inr, subst, sym, Bool, true, false}
use Rattle.std.proofs.Common.{Option, Some, None}
use Rattle.std.specs.Prelude.{Result, Ok, Err}
use Rattle.heap_formula.specs.declared.commands.Command.{Command}
use Rattle.heap_formula.specs.declared.judgements.Judgement.{Judgement}
use Rattle.heap_formula.specs.Definitions.{Definition}
use Rattle.heap_formula.specs.Judgements.{JudgementHolds}
use Rattle.cyc_lex.specs.declared.fault.ReadFault.{ReadFault}
use Rattle.cyc_runs.specs.declared.endings.Status.{Status}
use Rattle.cyc_runs.specs.declared.endings.Status.TheVariants as status
use Rattle.cyc_runs.specs.Faults.{fault_status}
use Rattle.cyc_runs.specs.Runs.{IsAnswerOf, WroteAnswer}
use Rattle.cyc_runs.proofs.Told.{told_is}
use Rattle.formula_reader.specs.declared.problem.Problem.{Problem}
use Rattle.formula_reader.specs.Reading as problems
use Rattle.check_answers.specs.Alike.{AreAlike}
use Rattle.check_answers.proofs.OneReading.{one_reading}
use Rattle.command_answers.proofs.Readings.{one_problem_reading}
use Rattle.run_file.specs.declared.file.RunFile.{RunFile}
use Rattle.run_file.specs.Reading as runs
use Rattle.run_file.proofs.Readings.{one_run}
use Rattle.run_file.proofs.RunLaws.{run-law}
use Rattle.solver.specs.declared.solution.Solution.{Solution}
use Rattle.solver.specs.declared.solution.Solution.TheVariants.{Proved, Impossible, Refuted, Unknown}
use Rattle.solver.specs.declared.solution.Refutation.TheVariants.{CounterModel, FaultyRun}
use Rattle.solver.specs.Runs.{IsRight}
use Rattle.solver.specs.Solutions.{Holds, IsSolution}
use Rattle.solver.proofs.SameRuns.{same_right, turned_run}
use Rattle.script_answers.specs.Begins.{is_script_text}
use Rattle.frames.specs.Questions.{is_frame_text, plain_text}
use Rattle.model_file.specs.declared.file.Model.{Model}
use Rattle.solve_top.specs.Frames.{HasNoFrame}
use Rattle.solve_top.proofs.FrameLaws.{no_frame_holds, no_frame_possible, same_no_frame}
use Rattle.solve_top.specs.Inputs.{is_run_text}
use Rattle.solve_top.specs.Answers.{EndAlike, IsAnswerTo, IsAnswerToAsked, IsAnswerWith, IsFrameSaid, IsInputAnswer}
use Rattle.solve_top.specs.Answers.{IsProblemAnswer, IsQuestionAnswer, IsRerun, IsRunAnswer, IsSaid, IsSolved}
use Rattle.solve_top.specs.Answers.{has_answered}

-- ---- yes, no, or that nothing is known

-- a run with this status says that A is so, that it is not so, or nothing
abbrev Says : Type 0 → Status → Type 0
Says A s = (A × (s ≡ status.Success)) ⊎ (((¬ A) × (s ≡ status.Refused)) ⊎ (s ≡ status.NotFound))

says_alike : (A B : Type 0) (s t : Status) → (A → B) → (B → A) → Says A s → Says B t → EndAlike s t
says_alike A B s t to from (inl a) (inl b) = inl (a.1 ∙ sym b.1)
says_alike A B s t to from (inl a) (inr (inl b)) = absurd (b.0 (to a.0))
says_alike A B s t to from (inl a) (inr (inr e)) = inr (ap has_answered a.1, ap has_answered e, inr e)
says_alike A B s t to from (inr (inl a)) (inl b) = absurd (a.0 (from b.0))
says_alike A B s t to from (inr (inl a)) (inr (inl b)) = inl (a.1 ∙ sym b.1)
says_alike A B s t to from (inr (inl a)) (inr (inr e)) = inr (ap has_answered a.1, ap has_answered e, inr e)
says_alike A B s t to from (inr (inr d)) (inl b) = inr (ap has_answered d, ap has_answered b.1, inl d)
says_alike A B s t to from (inr (inr d)) (inr (inl b)) = inr (ap has_answered d, ap has_answered b.1, inl d)
says_alike A B s t to from (inr (inr d)) (inr (inr e)) = inl (d ∙ sym e)

-- ---- problems

same_holds : (p q : Problem) → problems.AreSame p q → Holds p → Holds q
same_holds p q same h =
    subst (λ (ds : List Definition). JudgementHolds ds q.program q.goal) same.definitions
    (subst (λ (lines : List Command). JudgementHolds p.defs.list lines q.goal) same.program
    (subst (λ (goal : Judgement). JudgementHolds p.defs.list p.program goal) same.goal h))

turned : (p q : Problem) → problems.AreSame p q → problems.AreSame q p
turned p q same = record {
  version = sym same.version;
  most = sym same.most;
  definitions = sym same.definitions;
  program = sym same.program;
  goal = sym same.goal;
}

solution_says : (p : Problem) (found : Solution) (s : Status) (text : List ℕ) → IsSolution p found → IsSaid found s text
    → Says (Holds p) s
solution_says p (Proved found) s text proof said = inl (proof.holds, said.0)
solution_says p Impossible s text impossible said = inl (impossible.holds, said.0)
solution_says p (Refuted (CounterModel m)) s text counter said = inr (inl (counter.fails, said.0))
solution_says p (Refuted (FaultyRun r)) s text faulty said = inr (inl (faulty.fails, said.0))
solution_says p (Unknown stuck) s text none said = inr (inr said.0)

problems_alike : (r q : Result Problem ReadFault) (s t : Status) (xs ys : List ℕ) → AreAlike problems.AreSame r q
    → IsProblemAnswer r s xs → IsProblemAnswer q t ys → EndAlike s t
problems_alike (Ok p) (Ok q) s t xs ys same first second =
    says_alike (Holds p) (Holds q) s t (same_holds p q same) (same_holds q p (turned p q same))
    (solution_says p first.0 s xs first.1 first.2) (solution_says q second.0 t ys second.1 second.2)
problems_alike (Err a) (Err b) s t xs ys same first second = inl (first.ends ∙ ap fault_status same ∙ sym second.ends)
problems_alike (Ok p) (Err b) s t xs ys same first second = absurd same
problems_alike (Err a) (Ok q) s t xs ys same first second = absurd same

-- ---- runs

runs_alike : (r q : Result RunFile ReadFault) (s t : Status) (xs ys : List ℕ) → AreAlike runs.AreSame r q
    → IsRunAnswer r s xs → IsRunAnswer q t ys → EndAlike s t
runs_alike (Ok r) (Ok q) s t xs ys same first second =
    says_alike (IsRight r) (IsRight q) s t (same_right r q same) (same_right q r (turned_run r q same))
    (rerun_says r s xs first) (rerun_says q t ys second)
  where
    rerun_says : (r : RunFile) (s : Status) (text : List ℕ) → IsRerun r s text → Says (IsRight r) s
    rerun_says r s text (inl right) = inl (right.0, right.1)
    rerun_says r s text (inr (inl wrong)) = inr (inl (wrong.0, wrong.1))
    rerun_says r s text (inr (inr unknown)) = inr (inr unknown.0)
runs_alike (Err a) (Err b) s t xs ys same first second = inl (first.ends ∙ ap fault_status same ∙ sym second.ends)
runs_alike (Ok r) (Err b) s t xs ys same first second = absurd same
runs_alike (Err a) (Ok q) s t xs ys same first second = absurd same

-- ---- questions for frames

-- no model shows that there is no frame
abbrev MayHaveFrame : Problem → Type 0
MayHaveFrame p = ¬ ((m : Model) × HasNoFrame p m)

frame_says : (p : Problem) (s : Status) (text : List ℕ) → IsFrameSaid p s text → Says (MayHaveFrame p) s
frame_says p s text (inl told) =
    let found = told.1.is_found in
    inl (λ none. no_frame_holds p none.0 none.1 told.1.found.problem found.is_frame found.proof.holds, told.0)
frame_says p s text (inr (inl impossible)) =
    inl (λ none. impossible.1 (no_frame_possible p none.0 none.1), impossible.0)
frame_says p s text (inr (inr (inl none))) = inr (inl (λ may. may (none.1.0, none.1.1), none.0))
frame_says p s text (inr (inr (inr unknown))) = inr (inr unknown.0)

same_frames : (p q : Problem) → problems.AreSame p q → MayHaveFrame p → MayHaveFrame q
same_frames p q same may none = may (none.0, same_no_frame q p (turned p q same) none.0 none.1)

frames_alike : (r q : Result Problem ReadFault) (s t : Status) (xs ys : List ℕ) → AreAlike problems.AreSame r q
    → IsQuestionAnswer r s xs → IsQuestionAnswer q t ys → EndAlike s t
frames_alike (Ok p) (Ok q) s t xs ys same first second =
    says_alike (MayHaveFrame p) (MayHaveFrame q) s t (same_frames p q same) (same_frames q p (turned p q same))
    (frame_says p s xs first) (frame_says q t ys second)
frames_alike (Err a) (Err b) s t xs ys same first second = inl (first.ends ∙ ap fault_status same ∙ sym second.ends)
frames_alike (Ok p) (Err b) s t xs ys same first second = absurd same
frames_alike (Err a) (Ok q) s t xs ys same first second = absurd same

-- ---- inputs

kinds_alike : (b : Bool) (input : List ℕ) (s t : Status) (xs ys : List ℕ) → IsAnswerTo b input s xs
    → IsAnswerTo b input t ys → EndAlike s t
kinds_alike true input s t xs ys first second =
    runs_alike first.0 second.0 s t xs ys
    (one_reading runs.run_files run-law runs.AreSame one_run input first.0 second.0 first.1 second.1)
    first.2 second.2
kinds_alike false input s t xs ys first second =
    problems_alike first.0 second.0 s t xs ys (one_problem_reading input first.0 second.0 first.1 second.1)
    first.2 second.2

asked_alike : (b : Bool) (input : List ℕ) (s t : Status) (xs ys : List ℕ) → IsAnswerToAsked b input s xs
    → IsAnswerToAsked b input t ys → EndAlike s t
asked_alike true input s t xs ys first second =
    frames_alike first.0 second.0 s t xs ys
    (one_problem_reading (plain_text input) first.0 second.0 first.1 second.1) first.2 second.2
asked_alike false input s t xs ys first second = kinds_alike (is_run_text input) input s t xs ys first second

no_scripts_alike : (b : Bool) (input : List ℕ) (s t : Status) (xs ys : List ℕ) → b ≡ false → IsInputAnswer b input s xs
    → IsInputAnswer b input t ys → EndAlike s t
no_scripts_alike true input s t xs ys plain first second = absurd (let h : true ≡ false = plain in cc)
no_scripts_alike false input s t xs ys plain first second =
    asked_alike (is_frame_text input) input s t xs ys first second

answers_alike : (input : List ℕ) (s t : Status) (xs ys : List ℕ) → is_script_text input ≡ false
    → IsAnswerOf IsSolved input s xs → IsAnswerOf IsSolved input t ys → EndAlike s t
answers_alike input s t xs ys plain (inl first) (inl second) = inl (first.1 ∙ sym second.1)
answers_alike input s t xs ys plain (inr first) (inr second) = no_scripts_alike (is_script_text input)
    input s t xs ys plain first.1 second.1
answers_alike input s t xs ys plain (inl first) (inr second) = absurd (omega (arith, first.0, second.0))
answers_alike input s t xs ys plain (inr first) (inl second) = absurd (omega (arith, first.0, second.0))

-- a run that answered what was told ended as the told input is answered
pub solved_alike : (told old new : Option (List ℕ)) (input : List ℕ) (s t : Status) (ys : List ℕ) → told ≡ Some input
    → IsAnswerOf IsSolved input t ys → is_script_text input ≡ false → WroteAnswer (IsAnswerOf IsSolved) told old new s
    → EndAlike s t
solved_alike told old new input s t ys e expected plain wrote =
    answers_alike input s t wrote.0 ys plain
    (subst (λ i. IsAnswerOf IsSolved i s wrote.0) (sym (told_is told input wrote.1.0 e wrote.1.1)) wrote.1.2) expected

-- the usage is answered in one way
pub usage_alike : (input : List ℕ) (s t : Status) (ys : List ℕ) → IsAnswerWith None input t ys → s ≡ status.Usage
    → EndAlike s t
usage_alike input s t ys expected e = inl (e ∙ sym expected.0)
