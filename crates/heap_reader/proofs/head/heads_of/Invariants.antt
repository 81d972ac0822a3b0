use Rattle.std.proofs.Common.{◌≡◌, take, map}
use Rattle.heap_reader.specs.Trees.{heading_of, defined_headings}
use Rattle.heap_reader.proofs.head.heads_of.Given as goal

abbrev pub invariant-loop-def : goal.invariant-loop-def
invariant-loop-def l = map heading_of l.heads.items ≡ defined_headings (take l.def-index l.defs)
