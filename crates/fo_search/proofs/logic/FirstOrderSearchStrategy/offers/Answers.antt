use Rattle.std.proofs.Common.{arith}
use Rattle.fo_search.proofs.Few.{of_answer, all_few}
use Rattle.fo_search.proofs.logic.FirstOrderSearchStrategy.offers.Goals as goal

pub returns-clause-rules : goal.returns-clause-rules
returns-clause-rules c =
    of_answer c.offers_at.result _ _
    (λ o out. all_few c.args.self.now.logic.theory.now c.args.made.now c.args.goal.now _ _ c.requires.occur
    (omega arith) out) c.offers_at.ensures.rules
