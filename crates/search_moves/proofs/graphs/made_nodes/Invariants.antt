use Rattle.std.proofs.Common.{◌≡◌, [], ◌∷◌, ◌++◌, drop, take}
use Rattle.search_moves.specs.Graphs.{made_of, made_before}
use Rattle.search_moves.specs.Places.{each_from}
use Rattle.search_moves.proofs.graphs.made_nodes.Given as goal

abbrev pub invariant-loop-v : goal.invariant-loop-v
invariant-loop-v l =
    l.made.items ++ each_from (λ v node. made_of l.graph v node ∷ []) l.v (drop l.v (take l.goal l.graph))
    ≡ made_before l.graph l.goal
