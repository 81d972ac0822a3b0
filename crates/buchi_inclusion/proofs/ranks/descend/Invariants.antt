use Rattle.buchi_inclusion.specs.Work.{work_left}
use Rattle.buchi_inclusion.proofs.ranks.descend.Given as goal

abbrev pub decreases-loop-state : goal.decreases-loop-state
decreases-loop-state l = work_left l.rows l.search
