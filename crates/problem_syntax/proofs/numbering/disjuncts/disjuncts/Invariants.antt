use Rattle.std.proofs.Common.{◌≡◌, map, take}
use Rattle.problem_syntax.specs.Trees as named
use Rattle.problem_syntax.specs.Numbered.{heap_of}
use Rattle.problem_syntax.specs.Numbering.{disjunct}
use Rattle.problem_syntax.specs.Views.{names_of}
use Rattle.problem_syntax.proofs.numbering.disjuncts.disjuncts.Given as goal

abbrev pub invariant-loop-tree : goal.invariant-loop-tree
invariant-loop-tree l = map heap_of l.heaps.items ≡ map (disjunct (names_of l.universals))
    (map named.heap_of (take l.tree-index l.trees))
