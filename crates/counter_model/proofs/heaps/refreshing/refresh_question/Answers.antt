use Rattle.counter_model.specs.Findings.{UnlessGrown, TakesCases, IsSettled}
use Rattle.counter_model.proofs.Settled.{question_settled}
use Rattle.counter_model.proofs.heaps.refreshing.refresh_question.Goals as goal
use Rattle.std.proofs.lemmas.Result.{IfOk-weaker}

pub returns-in-Some : goal.returns-in-Some
returns-in-Some c =
    IfOk-weaker c.refresh_cases.result (λ g. UnlessGrown g c.args.table.now c.refresh_cases.new.table
    (TakesCases c.args.greatest c.args.table.now c.args.q c.values.result.now c.cases-cases.result.now))
    (λ g. UnlessGrown g c.args.table.now c.refresh_cases.new.table
    (IsSettled c.args.defs.now.list c.args.greatest c.args.table.now c.args.q))
    (λ g. question_settled c.args.defs.now.list c.args.greatest c.args.table.now c.refresh_cases.new.table g
    c.args.q c.predicate.result c.in-Some.question c.values.result.now c.cases-cases.result.now
    (rw c.in-Some.is at c.in_ok-question.ensures) c.predicate.ensures c.values.ensures c.cases-cases.ensures)
    c.refresh_cases.ensures
