use Rattle.std.proofs.Common.{◌≡◌, map, take}
use Rattle.problem_syntax.specs.Trees.{text_of}
use Rattle.problem_syntax.specs.Occurrences.{plain}
use Rattle.problem_syntax.specs.Views.{name_of}
use Rattle.problem_syntax.proofs.numbering.definitions.parameter_names.Given as goal

abbrev pub invariant-loop-text : goal.invariant-loop-text
invariant-loop-text l = map name_of l.names.items ≡ map plain (map text_of (take l.text-index l.texts))
