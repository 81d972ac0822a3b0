use Rattle.ring_family.proofs.Accepted.{few_are_accepted, ring_is_accepted}
use Rattle.ring_family.proofs.laws.ring_is_accepted.Goals as goal

pub returns-clause-same : goal.returns-clause-same
returns-clause-same c = ring_is_accepted

pub returns-clause-correct : goal.returns-clause-correct
returns-clause-correct c = few_are_accepted
