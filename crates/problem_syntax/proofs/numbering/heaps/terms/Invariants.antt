use Rattle.std.proofs.Common.{◌≡◌, map, take}
use Rattle.problem_syntax.specs.Trees.{named_of}
use Rattle.problem_syntax.specs.Numbering.{term}
use Rattle.problem_syntax.specs.Views.{scope_of}
use Rattle.problem_syntax.proofs.numbering.heaps.terms.Given as goal

abbrev pub invariant-loop-tree : goal.invariant-loop-tree
invariant-loop-tree l = l.terms.items ≡ map (term (scope_of l.scope)) (map named_of (take l.tree-index l.trees))
