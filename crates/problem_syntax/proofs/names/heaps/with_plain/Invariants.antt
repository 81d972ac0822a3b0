use Rattle.std.proofs.Common.{◌≡◌, ◌++◌, map, take, filter, not}
use Rattle.problem_syntax.specs.NameViews.{name_of}
use Rattle.problem_syntax.proofs.names.heaps.with_plain.Given as goal

abbrev pub invariant-loop-name : goal.invariant-loop-name
invariant-loop-name l = map name_of l.names.items ≡ map name_of l.fn.names.items
    ++ filter (λ n. not n.primed) (map name_of (take l.name-index l.uses))
