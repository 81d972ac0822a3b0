-- What is said of what is found is an answer to its problem.
use Rattle.std.proofs.Common.{List, ℕ, Result, Ok, Err}
use Rattle.std.specs.Prelude.{IfOk}
use Rattle.cyc_runs.specs.declared.endings.Status.{Status}
use Rattle.formula_reader.specs.declared.problem.Problem.{Problem}
use Rattle.solver.specs.declared.solution.Solution.{Solution}
use Rattle.solver.specs.Solutions.{IsSolution}
use Rattle.solve_top.specs.Answers.{IsProblemAnswer, IsSaid}

pub said_answer : {A E : Type 0} (status : A → Status) (text : A → List ℕ) (r : Result A E) (p : Problem)
    (found : Solution) → IsSolution p found → IfOk r (λ a. IsSaid found (status a) (text a))
    → IfOk r (λ a. IsProblemAnswer (Ok p) (status a) (text a))
said_answer status text (Ok a) p found is said = (found, is, said)
said_answer status text (Err e) p found is said = tt
