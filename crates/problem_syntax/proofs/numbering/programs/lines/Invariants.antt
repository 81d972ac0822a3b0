use Rattle.std.proofs.Common.{◌≡◌, map, take}
use Rattle.problem_syntax.specs.Trees.{line_of}
use Rattle.problem_syntax.specs.Numbering.{line}
use Rattle.problem_syntax.specs.Views.{names_of}
use Rattle.problem_syntax.proofs.numbering.programs.lines.Given as goal

abbrev pub invariant-loop-tree : goal.invariant-loop-tree
invariant-loop-tree l = l.lines.items ≡ map (line (names_of l.variables)) (map line_of (take l.tree-index l.trees))
