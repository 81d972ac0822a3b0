use Rattle.std.proofs.Common.{subst, sym, List, Option, ℕ}
use Rattle.std.specs.Prelude.{IfOk, IfSome, Ok}
use Rattle.cyc_runs.specs.declared.answers.Answer.{Answer}
use Rattle.formula_reader.specs.Reading as problems
use Rattle.solve_top.specs.Answers.{IsScriptSaid, IsSolvedScript}
use Rattle.solve_top.proofs.ScriptLaws.{solved_asked}
use Rattle.solve_top.proofs.scripts.answer_to_asked.Goals as goal

pub returns-clause-said : goal.returns-clause-said
returns-clause-said c input asked =
    solved_asked input c.args.asked.now.asks.question c.args.problem.now c.args.asked.now.text.items
    c.in_ok-solution.solution c.requires.read asked c.in_ok-solution.ensures c.requires.entailment
    c.answer_to_found.result
    (subst (λ (spelled : List ℕ). IfOk c.answer_to_found.result
    (λ a. IsScriptSaid c.args.asked.now.asks.question spelled c.in_ok-solution.solution a.status a.text.items))
    c.as_slice-text.ensures.value c.answer_to_found.ensures.said)

pub returns-in-Some-clause-said : goal.returns-in-Some-clause-said
returns-in-Some-clause-said c input asked =
    let read = subst (λ (spelled : List ℕ). problems.IsRead spelled (Ok c.args.problem.now))
    (sym c.as_slice-text.ensures.value) c.requires.read in
    let told = c.in_ok-answer.ensures.said input c.args.problem.now read asked in
    subst (λ (o : Option Answer). IfSome o (λ a. IsSolvedScript input a.status a.text.items)) c.in-Some.is told
