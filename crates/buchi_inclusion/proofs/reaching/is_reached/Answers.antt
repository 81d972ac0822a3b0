-- What is on the stack is led to.
use Rattle.std.proofs.Common.{subst}
use Rattle.buchi_inclusion.specs.Table.{states_of}
use Rattle.buchi_inclusion.specs.Decision.{HasWay}
use Rattle.buchi_inclusion.proofs.BadMoves.{led_first, led_parts}
use Rattle.buchi_inclusion.proofs.reaching.is_reached.Goals as goal

pub loop-place-init : goal.loop-place-init
loop-place-init c = led_first c.args.class.now.graph.now (states_of c.args.class.now.table.now.states)
    c.args.class.now.least c.args.start _ c.push.new.self.items c.requires.start c.in_ok-stack.ensures.items
    c.in_ok-push.ensures.items

pub returns-then-place-to : goal.returns-then-place-to
returns-then-place-to c yes' =
    subst (HasWay c.args.class.now.graph.now (states_of c.args.class.now.table.now.states)
    c.args.class.now.least c.args.start) c.if-place-to.true
    (led_parts c.args.class.now.graph.now (states_of c.args.class.now.table.now.states)
    c.args.class.now.least c.args.start c.in-Some.place c.loop-place.stack.items c.pop.new.self.items
    c.loop-place.invariant c.in-Some.ensures.items).1

pub push_row-requires-clause-way : goal.push_row-requires-clause-way
push_row-requires-clause-way c = (led_parts c.args.class.now.graph.now (states_of c.args.class.now.table.now.states)
    c.args.class.now.least c.args.start c.in-Some.place c.loop-place.stack.items c.pop.new.self.items
    c.loop-place.invariant c.in-Some.ensures.items).1

pub push_row-requires-clause-stack : goal.push_row-requires-clause-stack
push_row-requires-clause-stack c = (led_parts c.args.class.now.graph.now (states_of c.args.class.now.table.now.states)
    c.args.class.now.least c.args.start c.in-Some.place c.loop-place.stack.items c.pop.new.self.items
    c.loop-place.invariant c.in-Some.ensures.items).0
