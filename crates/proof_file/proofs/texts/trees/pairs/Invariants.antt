use Rattle.std.proofs.Common.{◌≡◌, take, map}
use Rattle.proof_file.specs.Written.{pair_tree}
use Rattle.proof_file.proofs.texts.trees.pairs.Given as goal

abbrev pub invariant-loop-variable : goal.invariant-loop-variable
invariant-loop-variable l = l.trees.items ≡ map pair_tree (take l.variable-index l.values)
