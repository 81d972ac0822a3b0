use Rattle.std.proofs.Common.{◌≡◌, ◌++◌, drop}
use Rattle.search_moves.specs.Places.{each_from, each_place}
use Rattle.fo_search.specs.Calculus.{links_to_node}
use Rattle.fo_search.proofs.offering.links_to_nodes.Given as goal

abbrev pub invariant-loop-number : goal.invariant-loop-number
invariant-loop-number l =
    let links = links_to_node l.goal.premise.judgement in
    l.reasons.items ++ each_from links l.number (drop l.number l.made) ≡ each_place links l.made
