-- All the lists are done at the end.
use Rattle.std.proofs.Common.{◌++◌, sym, ap, ◌∙◌}
use Rattle.std.proofs.lemmas.List.{append-nil, drop_all}
use Rattle.proof_graph.specs.Nodes.{premises_of}
use Rattle.proof_graph.specs.Traces.{edges_of}
use Rattle.proof_graph.proofs.traces.edges_with.Goals as goal

pub returns : goal.returns
returns c =
    sym (ap (λ ls. c.loop-pairs.edges.items ++ edges_of (premises_of c.args.slot ls))
    (drop_all c.loop-pairs.pairs-index c.args.lists.now c.loop-pairs-test.false)
    ∙ append-nil c.loop-pairs.edges.items)
    ∙ c.loop-pairs.invariant.made
