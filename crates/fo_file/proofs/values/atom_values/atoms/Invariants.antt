use Rattle.std.proofs.Common.{◌≡◌, drop, take, map}
use Rattle.heap_formula.specs.Words.{Each}
use Rattle.fo_syntax.specs.Trees.{atom_of}
use Rattle.fo_file.specs.Known.{IsKnownAtom}
use Rattle.fo_file.specs.Values.{atom_value}
use Rattle.fo_file.proofs.values.atom_values.atoms.Given as goal

abbrev pub invariant-loop-tree : goal.invariant-loop-tree
invariant-loop-tree l =
    (l.atoms.items ≡ map (atom_value l.constructors l.predicates) (map atom_of (take l.tree-index l.trees)))
    × Each (IsKnownAtom l.constructors l.predicates) (map atom_of (drop l.tree-index l.trees))
