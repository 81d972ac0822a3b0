use Rattle.std.proofs.Common.{◌≡◌, take, map}
use Rattle.heap_reader.specs.Written.{term_tree}
use Rattle.heap_reader.proofs.definitions.trees.terms.Given as goal

abbrev pub invariant-loop-value : goal.invariant-loop-value
invariant-loop-value l = l.trees.items ≡ map term_tree (take l.value-index l.values)
