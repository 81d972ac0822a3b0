use Rattle.std.proofs.Common.{◌≡◌, ◌++◌, map, take}
use Rattle.std.specs.List.{flat_map}
use Rattle.problem_syntax.specs.Trees as named
use Rattle.problem_syntax.specs.Occurrences.{end_names}
use Rattle.problem_syntax.specs.Views.{name_of}
use Rattle.problem_syntax.proofs.numbering.ends.with_ends_names.Given as goal

abbrev pub invariant-loop-tree : goal.invariant-loop-tree
invariant-loop-tree l = map name_of l.names.items ≡ map name_of l.fn.names.items
    ++ flat_map end_names (map named.end_of (take l.tree-index l.trees))
