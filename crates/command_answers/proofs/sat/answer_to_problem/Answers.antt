use Rattle.command_answers.proofs.Within.{antecedent_fields, are_cases}
use Rattle.command_answers.proofs.sat.answer_to_problem.Goals as goal

pub answer_by_table-requires-clause-closed : goal.answer_by_table-requires-clause-closed
answer_by_table-requires-clause-closed c = are_cases _ _ _ c.problem_is_within.ensures.definitions

pub answer_by_table-requires-clause-fields : goal.answer_by_table-requires-clause-fields
answer_by_table-requires-clause-fields c = antecedent_fields _ _ _ _ c.problem_is_within.ensures.goal
