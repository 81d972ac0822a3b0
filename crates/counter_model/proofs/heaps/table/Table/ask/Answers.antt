use Rattle.std.proofs.Common.{subst}
use Rattle.model_check.specs.Grounding.{Asked}
use Rattle.model_check.proofs.Asking.{asked_full}
use Rattle.counter_model.specs.Findings.{Findings}
use Rattle.counter_model.proofs.heaps.table.Table.ask.Goals as goal

pub returns-in_ok-push-clause-asked : goal.returns-in_ok-push-clause-asked
returns-in_ok-push-clause-asked c =
    subst (λ
    (t : Findings). Asked t.questions c.insert_full.new.self.keys c.in_ok-q.q c.args.predicate c.args.values.items)
    c.self.view_is
    (asked_full c.self.inside.questions.keys c.insert_full.new.self.keys c.new.result c.args.predicate
    c.args.values.items c.in_ok-q.q c.new.ensures c.in_ok-q.ensures.keys c.in_ok-q.ensures.stored)
