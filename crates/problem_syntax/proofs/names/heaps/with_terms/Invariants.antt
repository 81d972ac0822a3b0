use Rattle.std.proofs.Common.{◌≡◌, ◌++◌, map, take}
use Rattle.std.specs.List.{flat_map}
use Rattle.problem_syntax.specs.Trees.{named_of}
use Rattle.problem_syntax.specs.Occurrences.{term_names}
use Rattle.problem_syntax.specs.NameViews.{name_of}
use Rattle.problem_syntax.proofs.names.heaps.with_terms.Given as goal

abbrev pub invariant-loop-term : goal.invariant-loop-term
invariant-loop-term l = map name_of l.names.items ≡ map name_of l.fn.names.items
    ++ flat_map term_names (map named_of (take l.term-index l.terms))
