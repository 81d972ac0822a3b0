-- The edge's step.
use Rattle.std.proofs.Common.{arith}
use Rattle.buchi_core.specs.Stepping.{forest_in}
use Rattle.buchi_inclusion.specs.Table.{state_of}
use Rattle.buchi_inclusion.proofs.Stepping.{step_is}
use Rattle.buchi_inclusion.proofs.product.step_from.Goals as goal

pub unreachable-requires-in_default-node : goal.unreachable-requires-in_default-node
unreachable-requires-in_default-node c =
    omega (
      arith,
      c.in_default-node.ensures,
      c.requires.graph.targets c.args.state.node c.args.edge c.in-Some-edge.edge.now
          (record { node = c.in-Some.node.now; is_node = c.in-Some.ensures; is_edge = c.in-Some-edge.ensures }),
    )

pub returns : goal.returns
returns c =
    step_is c.args.graph.now (state_of c.args.state)
    c.in-Some.node.now c.in-Some-node.target.now c.args.edge c.in-Some-edge.edge.now c.target-node.result
    c.pairs.result.now c.positions.result.now (forest_in c.step-event.new.self) c.step-event.result
    c.requires.graph c.requires.state c.in-Some.ensures c.in-Some-edge.ensures c.target-node.ensures
    c.in-Some-node.ensures c.pairs.ensures c.positions.ensures c.step-event.ensures.forest
    c.step-event.ensures.event c.step-event.ensures.few
