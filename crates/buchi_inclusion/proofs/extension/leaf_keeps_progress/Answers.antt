use Rattle.buchi_inclusion.proofs.Leaf.{leaf_progresses}
use Rattle.buchi_inclusion.proofs.extension.leaf_keeps_progress.Goals as goal

pub returns : goal.returns
returns c g p pairs positions all = leaf_progresses g p pairs positions all
