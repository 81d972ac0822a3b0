-- What is written with success, and what with a refusal.
use Rattle.std.specs.Prelude.{◌≡◌, ◌⊎◌, ℕ, List, [], ◌++◌, Option, Ok, true}
use Rattle.std.specs.Io.KnownBytes.{Appends}
use Rattle.cyc_runs.specs.Runs.{IsTold}
use Rattle.formula_reader.specs.declared.problem.Problem.{Problem}
use Rattle.formula_reader.specs.Reading as problems
use Rattle.model_file.specs.declared.file.Model.{Model}
use Rattle.model_file.specs.Reading as models
use Rattle.proof_file.specs.declared.file.ProofFile.{ProofFile}
use Rattle.proof_file.specs.Reading as files
use Rattle.run_file.specs.declared.file.RunFile.{RunFile}
use Rattle.run_file.specs.Reading as runs
use Rattle.solver.specs.Runs.{IsRight}
use Rattle.solver.specs.Solutions.{Holds, IsCheckedProof, IsCounterModel, IsFaultyRun, IsImpossible}
use Rattle.command_answers.specs.Answers.{IsPossible}
use Rattle.frames.specs.Questions.{is_frame_text, plain_text}
use Rattle.solve_top.specs.Frames.{HasNoFrame, IsFrameOf}
use Rattle.solve_top.specs.Notes.{AreNotes}
use Rattle.solve_top.specs.Answers.{IsCertified, fails_line, holds_line, impossible_line, sat_line, unsat_line}
use Rattle.script_answers.specs.Asking.{IsGoalOfInput}
use Rattle.script_answers.specs.Begins.{is_script_text}
use Rattle.script_formulas.specs.declared.goals.question.Question.{Question}
use Rattle.script_formulas.specs.Meaning.{IsSatisfiable}

-- after the first line the text spells a proof of the goal that a check accepts
pub record IsProofText (problem : Problem) (text : List ℕ) : Type 0 where
  pub file : ProofFile
  pub proof : IsCheckedProof problem file
  pub certificate : List ℕ
  pub is : text ≡ holds_line ++ certificate
  pub is_file : files.IsRead certificate (Ok file)

-- nothing satisfies the antecedent, and that is said
abbrev pub IsImpossibleText : Problem → List ℕ → Type 0
IsImpossibleText problem text = IsImpossible problem × IsCertified impossible_line [] text

-- after the first line the text spells a model file, whose stack and heap satisfy the antecedent, and none of the
-- disjuncts
pub record IsModelText (problem : Problem) (text : List ℕ) : Type 0 where
  pub model : Model
  pub counter : IsCounterModel problem model
  pub certificate : List ℕ
  pub is : text ≡ fails_line ++ certificate
  pub is_file : models.IsRead certificate (Ok model)

-- after the first line the text spells a run file, whose run from a state of the precondition faults, comes back, or
-- stops at an end that does not hold
pub record IsRunText (problem : Problem) (text : List ℕ) : Type 0 where
  pub run : RunFile
  pub faulty : IsFaultyRun problem run
  pub certificate : List ℕ
  pub is : text ≡ fails_line ++ certificate
  pub is_file : runs.IsRead certificate (Ok run)

-- the input spells a problem whose goal holds, and the text shows it
pub record GoalHolds (input text : List ℕ) : Type 0 where
  pub problem : Problem
  pub is_problem : problems.IsRead input (Ok problem)
  pub holds : Holds problem
  pub shown : IsProofText problem text ⊎ IsImpossibleText problem text

-- the input spells a problem whose goal does not hold, and the text shows it
pub record GoalFails (input text : List ℕ) : Type 0 where
  pub problem : Problem
  pub is_problem : problems.IsRead input (Ok problem)
  pub fails : ¬ Holds problem
  pub shown : IsModelText problem text ⊎ IsRunText problem text

-- the input spells a run file, and its run is as it tells, or is not
pub record RunHolds (input : List ℕ) : Type 0 where
  pub run : RunFile
  pub is_run : runs.IsRead input (Ok run)
  pub right : IsRight run

pub record RunFails (input : List ℕ) : Type 0 where
  pub run : RunFile
  pub is_run : runs.IsRead input (Ok run)
  pub wrong : ¬ IsRight run

-- after the first line and notes the text of a problem, and then the certificate
pub record IsOverProblem (first text : List ℕ) (problem : Problem) (certificate : List ℕ) : Type 0 where
  pub notes : List ℕ
  pub are_notes : AreNotes notes
  pub spelled : List ℕ
  pub is_problem : problems.IsRead spelled (Ok problem)
  pub is : text ≡ first ++ (notes ++ (spelled ++ certificate))

-- a proof of the problem that a check accepts is the certificate; or nothing satisfies the antecedent, and none is
-- there
abbrev pub ShowsHolding : Problem → List ℕ → Type 0
ShowsHolding problem certificate =
    ((f : ProofFile) × IsCheckedProof problem f × files.IsRead certificate (Ok f))
    ⊎ ((¬ IsPossible problem) × (certificate ≡ []))

-- a model of the antecedent and of no disjunct is the certificate; or something satisfies the antecedent, and none is
-- there
abbrev pub ShowsModel : Problem → List ℕ → Type 0
ShowsModel problem certificate =
    ((m : Model) × IsCounterModel problem m × models.IsRead certificate (Ok m))
    ⊎ (IsPossible problem × (certificate ≡ []))

-- after `unsat` the text of a problem stands that asks what the script does, and whose goal holds, and what shows it;
-- then nothing satisfies the script
pub record IsUnsatText (input text : List ℕ) : Type 0 where
  pub question : Question
  pub problem : Problem
  pub asks : IsGoalOfInput input question problem.defs.list problem.goal
  pub certificate : List ℕ
  pub over : IsOverProblem unsat_line text problem certificate
  pub holds : Holds problem
  pub shown : ShowsHolding problem certificate
  pub unsatisfiable : ¬ IsSatisfiable asks.script

-- after `sat` the text of a problem stands that asks what the script does, and whose antecedent something satisfies,
-- and what shows it; then something satisfies the script
pub record IsSatText (input text : List ℕ) : Type 0 where
  pub question : Question
  pub problem : Problem
  pub asks : IsGoalOfInput input question problem.defs.list problem.goal
  pub certificate : List ℕ
  pub over : IsOverProblem sat_line text problem certificate
  pub possible : IsPossible problem
  pub shown : ShowsModel problem certificate
  pub satisfiable : IsSatisfiable asks.script

-- the input begins as a script, and the text is one of these
pub record ScriptIsSolved (input text : List ℕ) : Type 0 where
  pub script : is_script_text input ≡ true
  pub shown : IsUnsatText input text ⊎ IsSatText input text

-- after `holds` the text of a problem stands that says what is left of the problem's antecedent, and a proof of its
-- goal that a check accepts; and something satisfies the antecedent
pub record IsFrameText (problem : Problem) (text : List ℕ) : Type 0 where
  pub framed : Problem
  pub is_frame : IsFrameOf problem framed
  pub certificate : List ℕ
  pub over : IsOverProblem holds_line text framed certificate
  pub file : ProofFile
  pub proof : IsCheckedProof framed file
  pub is_file : files.IsRead certificate (Ok file)
  pub possible : IsPossible problem

-- the input asks for a frame, and the text shows one; or nothing satisfies the antecedent, and that is said
pub record FrameHolds (input text : List ℕ) : Type 0 where
  pub asks : is_frame_text input ≡ true
  pub problem : Problem
  pub is_problem : problems.IsRead (plain_text input) (Ok problem)
  pub shown : IsFrameText problem text ⊎ ((¬ IsPossible problem) × IsCertified impossible_line [] text)

-- the input asks for a frame, and the text shows that there is none: after the first line it spells a model file, whose
-- stack and heap satisfy the antecedent, while no part of the heap satisfies what is asked for
pub record FrameFails (input text : List ℕ) : Type 0 where
  pub asks : is_frame_text input ≡ true
  pub problem : Problem
  pub is_problem : problems.IsRead (plain_text input) (Ok problem)
  pub fails : (framed : Problem) → IsFrameOf problem framed → ¬ Holds framed
  pub model : Model
  pub none : HasNoFrame problem model
  pub certificate : List ℕ
  pub is : text ≡ fails_line ++ certificate
  pub is_file : models.IsRead certificate (Ok model)

-- some input, which is the one that was told, and a text that was written stand to each other so
abbrev pub WroteSo : (List ℕ → List ℕ → Type 0) → Option (List ℕ) → Option (List ℕ) → Option (List ℕ) → Type 0
WroteSo Stand told old new =
    (input : List ℕ) × (text : List ℕ) × IsTold told input × Appends old new text × Stand input text

-- the goal of the problem holds, and what was written shows it; or the run is as its file tells; or a script became a
-- problem, and what was written shows that this holds, or that its antecedent can be satisfied; or a frame was asked
-- for, and what was written shows one, or nothing satisfies the antecedent
abbrev pub WroteHolds : Option (List ℕ) → Option (List ℕ) → Option (List ℕ) → Type 0
WroteHolds = WroteSo (λ input text. GoalHolds input text
    ⊎ (RunHolds input ⊎ (ScriptIsSolved input text ⊎ FrameHolds input text)))

-- the goal of the problem does not hold, and what was written shows it; or the run is not as its file tells; or the
-- same of a script; or a frame was asked for, and what was written shows that there is none
abbrev pub WroteFails : Option (List ℕ) → Option (List ℕ) → Option (List ℕ) → Type 0
WroteFails = WroteSo (λ input text. GoalFails input text
    ⊎ (RunFails input ⊎ (ScriptIsSolved input text ⊎ FrameFails input text)))
