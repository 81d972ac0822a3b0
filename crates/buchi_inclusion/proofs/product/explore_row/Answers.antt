-- Edge after edge, the target is found among the states or appended to them.
use Rattle.std.proofs.Common.{◌≡◌, length, arith, sym, subst}
use Rattle.buchi_core.specs.Stepping.{forest_in}
use Rattle.buchi_core.specs.View.{entries_of}
use Rattle.buchi_inclusion.specs.Product.{State}
use Rattle.buchi_inclusion.specs.Table.{state_of, states_of, AreItems, Extends, IsStep}
use Rattle.buchi_inclusion.proofs.Exploring.{found_extends, found_states, items_more, more_than, finds}
use Rattle.buchi_inclusion.proofs.product.explore_row.Goals as goal

pub step_from-requires-clause-state : goal.step_from-requires-clause-state
step_from-requires-clause-state c = c.requires.states c.args.place (state_of c.in-Some.state) c.in-Some.ensures

pub returns-then-count_of-limit-clause-states : goal.returns-then-count_of-limit-clause-states
returns-then-count_of-limit-clause-states c =
    let s = finds c.args.graph.now (state_of c.in-Some.state)
    c.loop-edge.edge c.step_from.result c.in-Some-step_from.node c.in-Some-step_from.event
    (entries_of c.entries-forest.result.now) (forest_in c.step_from.new.stepper)
    c.in-Some-step_from.is c.entries-forest.ensures c.step_from.ensures in
    let t : State = record { node = c.in-Some-step_from.node; forest = entries_of c.entries-forest.result.now } in
    found_states c.args.graph.now (states_of c.loop-edge.states) (states_of c.intern.new.states)
    t c.in_ok-target.target c.in_ok-target.field-0-1 c.in_ok-target.ensures c.loop-edge.invariant.states s.1

pub returns-then-count_of-limit-clause-extends : goal.returns-then-count_of-limit-clause-extends
returns-then-count_of-limit-clause-extends c i s h =
    found_extends (states_of c.loop-edge.states) (states_of c.intern.new.states)
    _ c.in_ok-target.target c.in_ok-target.field-0-1 c.in_ok-target.ensures i s
    (c.loop-edge.invariant.extends i s h)

pub returns-then-count_of-limit-clause-row : goal.returns-then-count_of-limit-clause-row
returns-then-count_of-limit-clause-row c =
    let s = finds c.args.graph.now (state_of c.in-Some.state)
    c.loop-edge.edge c.step_from.result c.in-Some-step_from.node c.in-Some-step_from.event
    (entries_of c.entries-forest.result.now) (forest_in c.step_from.new.stepper)
    c.in-Some-step_from.is c.entries-forest.ensures c.step_from.ensures in
    let t : State = record { node = c.in-Some-step_from.node; forest = entries_of c.entries-forest.result.now } in
    more_than c.args.graph.now (states_of c.intern.new.states) c.args.limit
    (found_states c.args.graph.now (states_of c.loop-edge.states) (states_of c.intern.new.states)
    t c.in_ok-target.target c.in_ok-target.field-0-1 c.in_ok-target.ensures c.loop-edge.invariant.states s.1)
    c.count_of.ensures.apart (omega (arith, c.count_of.ensures.long))

pub loop-edge-preserved : goal.loop-edge-preserved
loop-edge-preserved c =
    let s = finds c.args.graph.now (state_of c.in-Some.state)
    c.loop-edge.edge c.step_from.result c.in-Some-step_from.node c.in-Some-step_from.event
    (entries_of c.entries-forest.result.now) (forest_in c.step_from.new.stepper)
    c.in-Some-step_from.is c.entries-forest.ensures c.step_from.ensures in
    let t : State = record { node = c.in-Some-step_from.node; forest = entries_of c.entries-forest.result.now } in
    let e : Extends (states_of c.loop-edge.states) (states_of c.intern.new.states) = found_extends
    (states_of c.loop-edge.states) (states_of c.intern.new.states)
    t c.in_ok-target.target c.in_ok-target.field-0-1 c.in_ok-target.ensures in
    let here : length c.loop-edge.row.items ≡ c.loop-edge.edge = omega
    (arith, c.loop-edge.row.ok, c.loop-edge.invariant.long) in
    record {
      states = found_states c.args.graph.now (states_of c.loop-edge.states) (states_of c.intern.new.states)
          t c.in_ok-target.target c.in_ok-target.field-0-1 c.in_ok-target.ensures c.loop-edge.invariant.states s.1;
      extends = λ i t h. e i t (c.loop-edge.invariant.extends i t h);
      few = omega (arith, c.count_of.ensures.long);
      items = subst (AreItems c.args.graph.now (states_of c.intern.new.states) c.args.place)
          (sym c.in_ok-push.ensures.items)
          (items_more c.args.graph.now (states_of c.loop-edge.states) (states_of c.intern.new.states)
          c.args.place c.loop-edge.row.items (record {
            target = c.in_ok-target.target;
            event = c.in-Some-step_from.event;
          }) e c.loop-edge.invariant.items
          (record {
            s = state_of c.in-Some.state;
            t = t;
            is_s = e c.args.place (state_of c.in-Some.state)
                (c.loop-edge.invariant.extends c.args.place (state_of c.in-Some.state) c.in-Some.ensures);
            is_t = c.in_ok-target.ensures.at;
            step = subst (λ k. IsStep c.args.graph.now (state_of c.in-Some.state) k t c.in-Some-step_from.event)
                (sym here) s.0;
          }));
      long = omega (arith, c.in_ok-push.ensures.len);
    }
