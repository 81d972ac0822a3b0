use Rattle.std.proofs.Common.{◌≡◌, take, map}
use Rattle.heap_reader.specs.Trees.{heading_of}
use Rattle.fo_syntax.specs.ProblemTrees.{definition_of}
use Rattle.fo_file.specs.Flaws.{predicate_heads}
use Rattle.fo_file.proofs.walk.known.predicate_heads.Given as goal

abbrev pub invariant-loop-tree : goal.invariant-loop-tree
invariant-loop-tree l = map heading_of l.heads.items ≡ predicate_heads (map definition_of (take l.tree-index l.trees))
