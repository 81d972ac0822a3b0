use Rattle.std.proofs.Common.{◌≡◌, ◌++◌, map, take}
use Rattle.std.specs.List.{flat_map}
use Rattle.heap_syntax.specs.Trees.{pure_of}
use Rattle.problem_syntax.specs.Trees.{named_of}
use Rattle.problem_syntax.specs.Occurrences.{pure_names}
use Rattle.problem_syntax.specs.Views.{name_of}
use Rattle.problem_syntax.proofs.numbering.occurrences.pure_names.Given as goal

abbrev pub invariant-loop-atom : goal.invariant-loop-atom
invariant-loop-atom l = map name_of l.names.items ≡ map name_of l.fn.names.items
    ++ flat_map pure_names (map (pure_of named_of) (take l.atom-index l.atoms))
