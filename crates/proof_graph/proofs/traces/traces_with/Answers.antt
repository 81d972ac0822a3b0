-- One more node, with the reason or as it is.
use Rattle.std.proofs.Common.{arith, refl, length}
use Rattle.std.proofs.lemmas.Option.{slice_get_read}
use Rattle.proof_graph.specs.Nodes.{changed_at, with_reason}
use Rattle.proof_graph.proofs.Changes.{length-changed_at, changed_there}
use Rattle.proof_graph.proofs.Joined.{graph_more, graph_done}
use Rattle.proof_graph.proofs.traces.traces_with.Goals as goal

pub loop-i-preserved : goal.loop-i-preserved
loop-i-preserved c =
    let given = with_reason c.args.reason.now c.args.pairs.now in
    let there = slice_get_read c.args.nodes.now (length c.args.nodes.now)
    c.loop-i.i c.index-nodes-i.result refl c.loop-i-test.true c.index-nodes-i.is in
    graph_more (changed_at given c.args.nodes.now c.args.place)
    c.loop-i.i _ c.in_ok-trace_node_given.field-0 c.loop-i.graph c.push.new.self
    (changed_there given c.args.nodes.now c.args.place c.loop-i.i c.index-nodes-i.result there)
    c.in_ok-trace_node_given.ensures c.in_ok-push.ensures.ok c.loop-i.invariant

pub returns : goal.returns
returns c =
    let given = with_reason c.args.reason.now c.args.pairs.now in
    graph_done (changed_at given c.args.nodes.now c.args.place) c.loop-i.i c.loop-i.graph
    (omega (arith, length-changed_at given c.args.nodes.now c.args.place, c.loop-i-test.false)) c.loop-i.invariant
