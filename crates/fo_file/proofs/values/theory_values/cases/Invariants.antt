use Rattle.std.proofs.Common.{◌≡◌, drop, take, map}
use Rattle.heap_formula.specs.Words.{Each}
use Rattle.fo_syntax.specs.ProblemTrees.{atoms_of}
use Rattle.fo_file.specs.Known.{AreKnownAtoms}
use Rattle.fo_file.specs.Values.{atoms_value}
use Rattle.fo_file.proofs.values.theory_values.cases.Given as goal

abbrev pub invariant-loop-tree : goal.invariant-loop-tree
invariant-loop-tree l =
    (l.cases.items ≡ map (atoms_value l.constructors l.predicates) (map atoms_of (take l.tree-index l.trees)))
    × Each (AreKnownAtoms l.constructors l.predicates) (map atoms_of (drop l.tree-index l.trees))
