use Rattle.buchi_inclusion.specs.Table.{states_of}
use Rattle.buchi_inclusion.specs.Decision.{AreLed}
use Rattle.buchi_inclusion.specs.Work.{places_left}
use Rattle.buchi_inclusion.proofs.reaching.is_reached.Given as goal

abbrev pub invariant-loop-place : goal.invariant-loop-place
invariant-loop-place l = AreLed l.class.graph.now (states_of l.class.table.now.states)
    l.class.least l.start l.stack.items

abbrev pub decreases-loop-place : goal.decreases-loop-place
decreases-loop-place l = places_left l.marks.items l.stack.items
