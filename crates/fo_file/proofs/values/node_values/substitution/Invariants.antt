use Rattle.std.proofs.Common.{◌≡◌, drop, take, map}
use Rattle.heap_formula.specs.Words.{Each}
use Rattle.fo_syntax.specs.ProofTrees.{entry_of}
use Rattle.fo_file.specs.Known.{IsKnownEntry}
use Rattle.fo_file.specs.Values.{entry_value}
use Rattle.fo_file.proofs.values.node_values.substitution.Given as goal

abbrev pub invariant-loop-tree : goal.invariant-loop-tree
invariant-loop-tree l =
    (l.pairs.items ≡ map (entry_value l.constructors) (map entry_of (take l.tree-index l.trees)))
    × Each (IsKnownEntry l.constructors) (map entry_of (drop l.tree-index l.trees))
