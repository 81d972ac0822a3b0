use Rattle.std.proofs.Common.{◌≤◌}
use Rattle.buchi_inclusion.specs.Table.{states_of}
use Rattle.buchi_inclusion.specs.Decision.{AreLed}
use Rattle.buchi_inclusion.specs.Work.{places_left}
use Rattle.buchi_inclusion.proofs.reaching.push_targets.Given as goal

abbrev pub invariant-loop-edge : goal.invariant-loop-edge
invariant-loop-edge l = record {
  led : AreLed l.class.graph.now (states_of l.class.table.now.states) l.class.least l.start l.stack.items;
  left : places_left l.marks.items l.stack.items ≤ places_left l.initial.marks.items l.initial.stack.items;
}
