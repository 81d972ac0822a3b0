use Rattle.std.proofs.Common.{◌≡◌, map, take}
use Rattle.heap_syntax.specs.Trees.{pure_of}
use Rattle.problem_syntax.specs.Trees.{named_of}
use Rattle.problem_syntax.specs.Numbering.{term}
use Rattle.problem_syntax.specs.Views.{scope_of}
use Rattle.problem_syntax.proofs.numbering.heaps.pure_atoms.Given as goal

abbrev pub invariant-loop-tree : goal.invariant-loop-tree
invariant-loop-tree l = l.atoms.items ≡ map (pure_of (term (scope_of l.scope)))
    (map (pure_of named_of) (take l.tree-index l.trees))
