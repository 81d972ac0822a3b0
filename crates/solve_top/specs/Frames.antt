-- What was found of a question for a frame: a problem that says what is left, or a model in which nothing is.
use Rattle.std.specs.Prelude.{◌≡◌, ◌<◌, ◌≤◌, List, [], ◌∷◌, ◌++◌, length, Option, Some, None, Ok}
use Rattle.heap_formula.specs.declared.judgements.Judgement.{Judgement}
use Rattle.heap_formula.specs.declared.judgements.Judgement.TheVariants.{Entail}
use Rattle.heap_formula.specs.Symbolic.{SymbolicHeap}
use Rattle.heap_formula.specs.Words.{Each}
use Rattle.heap_formula.specs.Cells.{Cells, IsPart}
use Rattle.heap_formula.specs.Definitions.{Definition}
use Rattle.heap_formula.specs.Meaning.{Satisfies}
use Rattle.heap_formula.specs.Values.{Stack}
use Rattle.model_check.specs.Parts.{SomePartSatisfies}
use Rattle.model_file.specs.declared.file.Model.{Model}
use Rattle.model_file.specs.Versions.{version_for}
use Rattle.cyc_runs.specs.Runs.{input_limit}
use Rattle.formula_reader.specs.declared.problem.Problem.{Problem}
use Rattle.formula_reader.specs.Reading as problems
use Rattle.solver.specs.Solutions.{IsCheckedProof}
use Rattle.solve_top.specs.declared.findings.FoundFrame.{FoundFrame}
use Rattle.solve_top.specs.declared.findings.Finding.{Finding}
use Rattle.solve_top.specs.declared.findings.Finding.TheVariants.{Frame, NoFrame, Nothing}

-- the heap is what was asked for and a frame beside it: the pure atoms of the one and then of the other, and so the
-- spatial ones
pub record IsJoined (asked whole : SymbolicHeap) : Type 0 where
  pub frame : SymbolicHeap
  pub is : whole ≡ record { pure = asked.pure ++ frame.pure; spatial = asked.spatial ++ frame.spatial }

-- the first goal asks whether an antecedent holds something and more; the second says that it holds this and one of
-- some frames
pub record IsFramedGoal (question framed : Judgement) : Type 0 where
  pub antecedent : SymbolicHeap
  pub asked : SymbolicHeap
  pub disjuncts : List SymbolicHeap
  pub is_question : question ≡ Entail antecedent (asked ∷ [])
  pub is_framed : framed ≡ Entail antecedent disjuncts
  pub some : 0 < length disjuncts
  pub joined : Each (IsJoined asked) disjuncts

-- the second problem is the first with a frame in its goal
pub record IsFrameOf (problem framed : Problem) : Type 0 where
  pub version : framed.version ≡ problem.version
  pub definitions : framed.defs.list ≡ problem.defs.list
  pub program : framed.program ≡ problem.program
  pub goal : IsFramedGoal problem.goal framed.goal

-- a stack and a heap that satisfy the antecedent of the question, of which the model file asks, while no part of the heap
-- satisfies what is asked for
pub record HasNoFrame (problem : Problem) (m : Model) : Type 0 where
  pub version : m.version ≡ version_for problem.version
  pub definitions : m.defs.list ≡ problem.defs.list
  pub asked : SymbolicHeap
  pub goal : problem.goal ≡ Entail m.ask (asked ∷ [])
  pub antecedent : Satisfies problem.defs.list m.stack m.heap m.ask
  pub none : (part : Cells) → IsPart part m.heap → ¬ Satisfies problem.defs.list m.stack part asked

-- the same of a stack and a heap
pub record IsFrameless (ds : List Definition) (a asked : SymbolicHeap) (s : Stack) (h : Cells) : Type 0 where
  pub antecedent : Satisfies ds s h a
  pub none : ¬ SomePartSatisfies ds s h asked

-- what is found is a text that spells such a problem and may be an input, and a proof of its goal that a check accepts
pub record IsFound (problem : Problem) (found : FoundFrame) : Type 0 where
  pub short : length found.text.items ≤ input_limit
  pub is_problem : problems.IsRead found.text.items (Ok found.problem)
  pub is_frame : IsFrameOf problem found.problem
  pub proof : IsCheckedProof found.problem found.proof.file

abbrev pub IsSoughtFrame : Problem → Option FoundFrame → Type 0
IsSoughtFrame problem (Some found) = IsFound problem found
IsSoughtFrame problem None = Unit {0}

abbrev pub IsSoughtModel : Problem → Option Model → Type 0
IsSoughtModel problem (Some m) = HasNoFrame problem m
IsSoughtModel problem None = Unit {0}

-- that nothing is found says nothing
abbrev pub IsFinding : Problem → Finding → Type 0
IsFinding problem (Frame found) = IsFound problem found
IsFinding problem (NoFrame m) = HasNoFrame problem m
IsFinding problem Nothing = Unit {0}
