use Rattle.std.proofs.Common.{◌≡◌, drop}
use Rattle.std.specs.List.{list_any}
use Rattle.search_moves.specs.Graphs.{is_number, fills}
use Rattle.proof_graph.specs.declared.nodes.GraphPremise.{GraphPremise}
use Rattle.search_moves.proofs.graphs.fills.Given as goal

abbrev pub invariant-loop-premise : goal.invariant-loop-premise
invariant-loop-premise l = list_any (λ (premise : GraphPremise). is_number l.v premise.slot)
    (drop l.premise-index l.premises) ≡ fills l.v l.premises
