use Rattle.std.proofs.Common.{◌≡◌, take, map}
use Rattle.fo_syntax.specs.ProofTrees.{entry_of}
use Rattle.fo_file.specs.Written.{entry_tree}
use Rattle.fo_file.proofs.values.node_trees.entries.Given as goal

abbrev pub invariant-loop-variable : goal.invariant-loop-variable
invariant-loop-variable l = map entry_of l.trees.items ≡ map (entry_tree l.theory) (take l.variable-index l.values)
