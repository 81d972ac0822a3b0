use Rattle.std.proofs.Common.{◌≡◌, ◌≤◌, ◌++◌, drop, length}
use Rattle.std.specs.List.{zip}
use Rattle.fo_search.proofs.moves.linking.paired.Given as goal

abbrev pub invariant-loop-k : goal.invariant-loop-k
invariant-loop-k l = (l.pairs.items ++ zip (drop l.k l.sources) (drop l.k l.terms) ≡ zip l.sources l.terms)
    × (l.k ≤ length l.terms)
