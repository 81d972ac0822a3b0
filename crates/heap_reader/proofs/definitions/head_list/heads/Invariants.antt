use Rattle.std.proofs.Common.{◌≡◌, take, map}
use Rattle.heap_syntax.specs.DefinitionTrees.{definition_of}
use Rattle.heap_reader.specs.Trees.{heading_of}
use Rattle.heap_reader.specs.DefinitionFlaws.{headings}
use Rattle.heap_reader.proofs.definitions.head_list.heads.Given as goal

abbrev pub invariant-loop-def : goal.invariant-loop-def
invariant-loop-def l = map heading_of l.heads.items ≡ headings (map definition_of (take l.def-index l.defs))
