use Rattle.std.proofs.Common.{◌≡◌, map, take}
use Rattle.problem_syntax.specs.Names.{firsts}
use Rattle.problem_syntax.specs.Views.{name_of}
use Rattle.problem_syntax.proofs.numbering.names.first_names.Given as goal

abbrev pub invariant-loop-name : goal.invariant-loop-name
invariant-loop-name l = map name_of l.all.keys ≡ firsts (map name_of (take l.name-index l.uses))
