use Rattle.std.proofs.Common.{subst, sym}
use Rattle.std.specs.Prelude.{◌↔◌, IsTrue}
use Rattle.heap_formula.specs.Words.{Each}
use Rattle.pair_family.specs.Closedness.{HasFields}
use Rattle.pair_family.specs.Statements.{IsSatisfiable}
use Rattle.command_answers.proofs.sat.answer_by_table.Goals as goal

pub satisfiable_within-requires-clause-fields : goal.satisfiable_within-requires-clause-fields
satisfiable_within-requires-clause-fields c =
    subst (λ a. Each HasFields a.spatial) (sym c.antecedent-heap.ensures) c.requires.fields

pub answer_to_question-requires : goal.answer_to_question-requires
answer_to_question-requires c =
    subst (λ a. IsTrue c.in-Ok.yes ↔ IsSatisfiable c.args.problem.now.defs.list a)
    c.antecedent-heap.ensures c.in-Ok.ensures.exact
