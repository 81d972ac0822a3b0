use Rattle.std.proofs.Common.{◌≡◌, drop, take, map}
use Rattle.heap_formula.specs.Words.{Each}
use Rattle.proof_file.specs.Small.{IsSmallPair}
use Rattle.proof_file.specs.Values.{pair_value}
use Rattle.proof_file.proofs.values.substitution.Given as goal

abbrev pub invariant-loop-tree : goal.invariant-loop-tree
invariant-loop-tree l =
    (l.pairs.items ≡ map pair_value (take l.tree-index l.trees)) × Each IsSmallPair (drop l.tree-index l.trees)
