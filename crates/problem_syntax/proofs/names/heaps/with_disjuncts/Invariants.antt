use Rattle.std.proofs.Common.{◌≡◌, ◌++◌, map, take}
use Rattle.std.specs.List.{flat_map}
use Rattle.problem_syntax.specs.Trees.{heap_of}
use Rattle.problem_syntax.specs.Occurrences.{plain_names}
use Rattle.problem_syntax.specs.NameViews.{name_of}
use Rattle.problem_syntax.proofs.names.heaps.with_disjuncts.Given as goal

abbrev pub invariant-loop-disjunct : goal.invariant-loop-disjunct
invariant-loop-disjunct l = map name_of l.names.items ≡ map name_of l.fn.names.items
    ++ flat_map plain_names (map heap_of (take l.disjunct-index l.disjuncts))
