use Rattle.ring_family.proofs.Correct.{nodes_long}
use Rattle.ring_family.proofs.Accepted.{ring_root, ring_links}
use Rattle.ring_family.proofs.laws.ring_has_one_link.Goals as goal

pub returns-clause-root : goal.returns-clause-root
returns-clause-root c = ring_root

pub returns-clause-size : goal.returns-clause-size
returns-clause-size c = nodes_long

pub returns-clause-links : goal.returns-clause-links
returns-clause-links c = ring_links
