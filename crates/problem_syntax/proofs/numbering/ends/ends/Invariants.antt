use Rattle.std.proofs.Common.{◌≡◌, map, take}
use Rattle.problem_syntax.specs.Trees as named
use Rattle.problem_syntax.specs.Numbered.{end_of}
use Rattle.problem_syntax.specs.Numbering.{end}
use Rattle.problem_syntax.specs.Views.{names_of}
use Rattle.problem_syntax.proofs.numbering.ends.ends.Given as goal

abbrev pub invariant-loop-tree : goal.invariant-loop-tree
invariant-loop-tree l = map end_of l.ends.items ≡ map (end (names_of l.variables))
    (map named.end_of (take l.tree-index l.trees))
