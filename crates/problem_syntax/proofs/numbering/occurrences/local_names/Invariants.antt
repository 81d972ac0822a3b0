use Rattle.std.proofs.Common.{◌≡◌, map, take, filter, not}
use Rattle.problem_syntax.specs.Names.{has}
use Rattle.problem_syntax.specs.Views.{name_of, names_of}
use Rattle.problem_syntax.proofs.numbering.occurrences.local_names.Given as goal

abbrev pub invariant-loop-name : goal.invariant-loop-name
invariant-loop-name l = map name_of l.names.items ≡ filter (λ n. not (has (names_of l.parameters) n))
    (map name_of (take l.name-index l.uses))
