use Rattle.std.proofs.Common.{◌≡◌, ◌++◌, map, drop}
use Rattle.pair_family.proofs.states.labels.push_against.Given as goal

abbrev pub invariant-loop-cell : goal.invariant-loop-cell
invariant-loop-cell l = l.out.items ++ map (λ c. (c, l.nil)) (drop l.cell-index l.cells) ≡ l.fn.out.items
    ++ map (λ c. (c, l.nil)) l.cells
