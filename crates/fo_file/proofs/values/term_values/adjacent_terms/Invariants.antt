use Rattle.std.proofs.Common.{drop, map}
use Rattle.heap_formula.specs.Words.{Each}
use Rattle.fo_syntax.specs.Trees.{sign_of}
use Rattle.fo_file.specs.Known.{IsKnownSign}
use Rattle.fo_file.specs.Values.{term_value}
use Rattle.fo_file.proofs.Adjacent.{IsUnderway}
use Rattle.fo_file.proofs.values.term_values.adjacent_terms.Given as goal

abbrev pub invariant-loop-tree : goal.invariant-loop-tree
invariant-loop-tree l = record {
  underway : IsUnderway l.count (term_value l.constructors (map sign_of l.trees)) l.terms.items l.awaited l.signs.items
      (term_value l.constructors (map sign_of (drop l.tree-index l.trees)));
  known : Each (IsKnownSign l.constructors) (map sign_of (drop l.tree-index l.trees));
}
