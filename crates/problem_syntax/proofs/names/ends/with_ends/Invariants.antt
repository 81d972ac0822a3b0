use Rattle.std.proofs.Common.{◌≡◌, ◌++◌, map, take}
use Rattle.std.specs.List.{flat_map}
use Rattle.problem_syntax.specs.Trees.{end_of}
use Rattle.problem_syntax.specs.Occurrences.{end_names}
use Rattle.problem_syntax.specs.NameViews.{name_of}
use Rattle.problem_syntax.proofs.names.ends.with_ends.Given as goal

abbrev pub invariant-loop-end : goal.invariant-loop-end
invariant-loop-end l = map name_of l.names.items ≡ map name_of l.fn.names.items
    ++ flat_map end_names (map end_of (take l.end-index l.ends))
