use Rattle.std.proofs.Common.{◌≡◌, map, take}
use Rattle.std.specs.List.{flat_map}
use Rattle.problem_syntax.specs.Trees.{line_of}
use Rattle.problem_syntax.specs.Occurrences.{line_names}
use Rattle.problem_syntax.specs.Views.{name_of}
use Rattle.problem_syntax.proofs.numbering.occurrences.lines_names.Given as goal

abbrev pub invariant-loop-line : goal.invariant-loop-line
invariant-loop-line l = map name_of l.names.items ≡ flat_map line_names (map line_of (take l.line-index l.lines))
