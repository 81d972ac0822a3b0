use Rattle.proof_search.specs.Moves.{theory_in}
use Rattle.proof_search.proofs.Proofs.{are_small}
use Rattle.proof_search.proofs.logic.SeparationSearchStrategy.offers.Goals as goal

pub offers_of-requires-clause-small : goal.offers_of-requires-clause-small
offers_of-requires-clause-small c =
    are_small (theory_in c.args.self.now) c.args.goal.now.premise.judgement c.requires.occur.goal
