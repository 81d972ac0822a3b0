-- The nodes by the rules, the lassos by the ring, the states by their nodes.
use Rattle.ring_family.proofs.Correct.{right, paths, states_at_most, states_at_least}
use Rattle.ring_family.proofs.laws.ring_is_correct.Goals as goal

pub returns-clause-right : goal.returns-clause-right
returns-clause-right c = right

pub returns-clause-paths : goal.returns-clause-paths
returns-clause-paths c = paths

pub returns-clause-at_most : goal.returns-clause-at_most
returns-clause-at_most c = states_at_most

pub returns-clause-at_least : goal.returns-clause-at_least
returns-clause-at_least c = states_at_least
