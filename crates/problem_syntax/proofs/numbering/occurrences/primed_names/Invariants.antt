use Rattle.std.proofs.Common.{◌≡◌, map, take, filter}
use Rattle.problem_syntax.specs.Views.{name_of}
use Rattle.problem_syntax.proofs.numbering.occurrences.primed_names.Given as goal

abbrev pub invariant-loop-name : goal.invariant-loop-name
invariant-loop-name l = map name_of l.names.items ≡ filter (λ n. n.primed) (map name_of (take l.name-index l.uses))
