use Rattle.std.proofs.Common.{subst, sym}
use Rattle.heap_formula.specs.Words.{Each}
use Rattle.pair_family.specs.Closedness.{HasFields}
use Rattle.command_answers.proofs.Within.{antecedent_fields, are_cases}
use Rattle.solver.proofs.Impossible.{is_impossible}
use Rattle.solver.proofs.antecedents.is_impossible.Goals as goal

pub satisfiable_within-requires-clause-closed : goal.satisfiable_within-requires-clause-closed
satisfiable_within-requires-clause-closed c = are_cases _ _ _ c.problem_is_within.ensures.definitions

pub satisfiable_within-requires-clause-fields : goal.satisfiable_within-requires-clause-fields
satisfiable_within-requires-clause-fields c =
    subst (λ a. Each HasFields a.spatial) (sym c.antecedent-heap.ensures)
    (antecedent_fields _ _ _ _ c.problem_is_within.ensures.goal)

pub returns-in-Ok-satisfiable_within : goal.returns-in-Ok-satisfiable_within
returns-in-Ok-satisfiable_within c t = is_impossible c.args.problem.now c.antecedent-heap.result.now
    c.in-Ok-satisfiable_within.yes c.antecedent-heap.ensures c.in-Ok-satisfiable_within.ensures.exact t
