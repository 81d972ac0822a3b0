use Rattle.std.proofs.Common.{◌≡◌, take, map}
use Rattle.heap_reader.specs.Trees.{heading_of}
use Rattle.fo_syntax.specs.ProblemTrees.{constructor_of}
use Rattle.fo_file.specs.Flaws.{constructor_heads}
use Rattle.fo_file.proofs.walk.known.constructor_heads.Given as goal

abbrev pub invariant-loop-tree : goal.invariant-loop-tree
invariant-loop-tree l = map heading_of l.heads.items
    ≡ constructor_heads (map constructor_of (take l.tree-index l.trees))
