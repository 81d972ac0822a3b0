-- What is found of a problem.
use Rattle.std.specs.Prelude.{◌≡◌, List, Option, Some, None, slice_get}
use Rattle.heap_formula.specs.declared.judgements.Judgement.TheVariants.{Entail, Term as Runs}
use Rattle.heap_formula.specs.Cells.{Cells}
use Rattle.heap_formula.specs.Definitions.{Definition}
use Rattle.heap_formula.specs.Judgements.{JudgementHolds}
use Rattle.heap_formula.specs.Meaning.{Satisfies, SatisfiesOne}
use Rattle.heap_formula.specs.Symbolic.{SymbolicHeap}
use Rattle.heap_formula.specs.Values.{Stack}
use Rattle.formula_reader.specs.declared.problem.Problem.{Problem}
use Rattle.logics.specs.declared.verdict.Verdict.TheVariants.{Accepted}
use Rattle.model_file.specs.declared.file.Model.{Model}
use Rattle.proof_check.specs.Verdicts.{IsVerdict}
use Rattle.proof_file.specs.declared.file.ProofFile.{ProofFile}
use Rattle.proof_file.specs.FileNodes.{FileNode}
use Rattle.run_file.specs.declared.file.RunFile.{RunFile}
use Rattle.command_answers.specs.Answers.{IsPossible}
use Rattle.solver.specs.declared.solution.FoundProof.{FoundProof}
use Rattle.solver.specs.declared.solution.Refutation.{Refutation}
use Rattle.solver.specs.declared.solution.Refutation.TheVariants.{CounterModel, FaultyRun}
use Rattle.solver.specs.declared.solution.Solution.{Solution}
use Rattle.solver.specs.declared.solution.Solution.TheVariants.{Proved, Impossible, Refuted, Unknown}
use Rattle.solver.specs.Runs.{IsRight}

-- the goal holds
abbrev pub Holds : Problem → Type 0
Holds problem = JudgementHolds problem.defs.list problem.program problem.goal

-- a proof of the problem's goal, of the problem's version, that a check accepts
pub record IsCheckedProof (problem : Problem) (f : ProofFile) : Type 0 where
  pub version : f.version ≡ problem.version
  pub definitions : f.defs ≡ problem.defs
  pub program : f.program ≡ problem.program
  pub root : FileNode
  pub is_root : slice_get f.nodes 0 ≡ Some root
  pub goal : root.judgement ≡ problem.goal
  pub accepted : IsVerdict f Accepted
  pub holds : Holds problem

-- what is found is such a proof; that nothing is found says nothing
abbrev pub IsChecked : Problem → Option ProofFile → Type 0
IsChecked problem (Some f) = IsCheckedProof problem f
IsChecked problem None = Unit {0}

abbrev pub IsSought : Problem → Option FoundProof → Type 0
IsSought problem (Some found) = IsCheckedProof problem found.file
IsSought problem None = Unit {0}

-- the stack and the heap satisfy the antecedent and none of the disjuncts
pub record IsRefuting (ds : List Definition) (a : SymbolicHeap) (bs : List SymbolicHeap) (s : Stack) (h : Cells)
    : Type 0 where
  pub antecedent : Satisfies ds s h a
  pub none : ¬ SatisfiesOne ds s h bs

-- a stack and a heap that satisfy the goal's antecedent, of which the model file asks, and none of its disjuncts
pub record IsCounterModel (problem : Problem) (m : Model) : Type 0 where
  pub definitions : m.defs.list ≡ problem.defs.list
  pub disjuncts : List SymbolicHeap
  pub goal : problem.goal ≡ Entail m.ask disjuncts
  pub antecedent : Satisfies problem.defs.list m.stack m.heap m.ask
  pub none : ¬ SatisfiesOne problem.defs.list m.stack m.heap disjuncts
  pub fails : ¬ Holds problem

-- a run of the goal's program from a state of its precondition, which faults, comes back, perhaps with more, or stops at
-- an end that does not hold
pub record IsFaultyRun (problem : Problem) (r : RunFile) : Type 0 where
  pub definitions : r.defs.list ≡ problem.defs.list
  pub program : r.program ≡ problem.program
  pub goal : problem.goal ≡ Runs r.line r.precondition
  pub right : IsRight r
  pub fails : ¬ Holds problem

-- what is found is such a model, or such a run; that nothing is found says nothing
abbrev pub IsFoundCounter : Problem → Option Model → Type 0
IsFoundCounter problem (Some m) = IsCounterModel problem m
IsFoundCounter problem None = Unit {0}

abbrev pub IsFoundRun : Problem → Option RunFile → Type 0
IsFoundRun problem (Some r) = IsFaultyRun problem r
IsFoundRun problem None = Unit {0}

abbrev pub IsRefutation : Problem → Refutation → Type 0
IsRefutation problem (CounterModel m) = IsCounterModel problem m
IsRefutation problem (FaultyRun r) = IsFaultyRun problem r

-- what refutes is such a model or run; that nothing does says nothing
abbrev pub IsFoundRefutation : Problem → Option Refutation → Type 0
IsFoundRefutation problem (Some refutation) = IsRefutation problem refutation
IsFoundRefutation problem None = Unit {0}

-- nothing satisfies the goal's antecedent, so that it holds
pub record IsImpossible (problem : Problem) : Type 0 where
  pub impossible : ¬ IsPossible problem
  pub holds : Holds problem

abbrev pub IsSolution : Problem → Solution → Type 0
IsSolution problem (Proved found) = IsCheckedProof problem found.file
IsSolution problem Impossible = IsImpossible problem
IsSolution problem (Refuted refutation) = IsRefutation problem refutation
IsSolution problem (Unknown stuck) = Unit {0}
