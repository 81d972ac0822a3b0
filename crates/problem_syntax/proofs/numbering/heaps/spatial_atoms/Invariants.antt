use Rattle.std.proofs.Common.{◌≡◌, map, take}
use Rattle.heap_syntax.specs.Trees as trees
use Rattle.problem_syntax.specs.Trees.{named_of}
use Rattle.problem_syntax.specs.Numbered.{spatial_of}
use Rattle.problem_syntax.specs.Numbering.{spatial}
use Rattle.problem_syntax.specs.Views.{scope_of}
use Rattle.problem_syntax.proofs.numbering.heaps.spatial_atoms.Given as goal

abbrev pub invariant-loop-tree : goal.invariant-loop-tree
invariant-loop-tree l = map spatial_of l.atoms.items
    ≡ map (spatial (scope_of l.scope)) (map (trees.spatial_of named_of) (take l.tree-index l.trees))
