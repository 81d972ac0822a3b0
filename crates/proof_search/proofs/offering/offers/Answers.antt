use Rattle.proof_search.specs.Outcomes.{theory_for}
use Rattle.proof_search.proofs.Proofs.{are_small, within}
use Rattle.proof_search.proofs.offering.offers.Goals as goal

pub offers-requires-clause-small : goal.offers-requires-clause-small
offers-requires-clause-small c =
    let p = c.args.problem.now in
    are_small (theory_for p) p.goal (within p c.problem_is_within.ensures.definitions
    c.problem_is_within.ensures.program c.problem_is_within.ensures.ends c.problem_is_within.ensures.goal)
