-- The answers exclude one another.
use Rattle.buchi_inclusion.proofs.Systems.{same_kind}
use Rattle.buchi_inclusion.proofs.laws.answers_agree.Goals as goal

pub returns : goal.returns
returns c = same_kind
