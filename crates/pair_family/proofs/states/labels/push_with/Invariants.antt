use Rattle.std.proofs.Common.{◌≡◌, ◌++◌, map, drop}
use Rattle.pair_family.proofs.states.labels.push_with.Given as goal

abbrev pub invariant-loop-other : goal.invariant-loop-other
invariant-loop-other l = l.out.items ++ map (λ u. (l.cell, u)) (drop l.other-index l.others) ≡ l.fn.out.items
    ++ map (λ u. (l.cell, u)) l.others
