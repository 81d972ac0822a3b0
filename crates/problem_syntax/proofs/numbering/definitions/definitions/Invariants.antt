use Rattle.std.proofs.Common.{◌≡◌, map, take}
use Rattle.problem_syntax.specs.Trees as named
use Rattle.problem_syntax.specs.Numbered.{definition_of}
use Rattle.problem_syntax.specs.Numbering.{definition}
use Rattle.problem_syntax.proofs.numbering.definitions.definitions.Given as goal

abbrev pub invariant-loop-tree : goal.invariant-loop-tree
invariant-loop-tree l = map definition_of l.definitions.items
    ≡ map definition (map named.definition_of (take l.tree-index l.trees))
