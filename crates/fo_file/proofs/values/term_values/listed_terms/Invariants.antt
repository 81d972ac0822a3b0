use Rattle.std.proofs.Common.{◌≡◌, drop, take, map}
use Rattle.heap_formula.specs.Words.{Each}
use Rattle.fo_syntax.specs.ProofTrees.{signs_of}
use Rattle.fo_file.specs.Known.{IsKnownTerm}
use Rattle.fo_file.specs.Values.{term_value}
use Rattle.fo_file.proofs.values.term_values.listed_terms.Given as goal

abbrev pub invariant-loop-tree : goal.invariant-loop-tree
invariant-loop-tree l =
    (l.terms.items ≡ map (term_value l.constructors) (map signs_of (take l.tree-index l.trees)))
    × Each (IsKnownTerm l.constructors) (map signs_of (drop l.tree-index l.trees))
