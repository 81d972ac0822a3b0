use Rattle.std.proofs.Common.{◌≢◌, ◌↔◌, drop}
use Rattle.heap_formula.specs.Words.{Each}
use Rattle.pair_family.proofs.states.labels.are_apart.Given as goal

abbrev pub invariant-loop-difference : goal.invariant-loop-difference
invariant-loop-difference l = Each (λ q. q.0 ≢ q.1) l.differences
    ↔ Each (λ q. q.0 ≢ q.1) (drop l.difference-index l.differences)
