use Rattle.solve_top.proofs.Said.{said_answer}
use Rattle.solve_top.proofs.answering.answer_to_problem.Goals as goal

pub returns-clause-said : goal.returns-clause-said
returns-clause-said c =
    said_answer (λ a. a.status) (λ a. a.text.items)
    c.answer_to_solution.result c.args.problem.now c.in_ok-solution.solution c.in_ok-solution.ensures
    c.answer_to_solution.ensures.said
