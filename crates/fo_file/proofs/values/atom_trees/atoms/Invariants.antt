use Rattle.std.proofs.Common.{◌≡◌, take, map}
use Rattle.fo_syntax.specs.Trees.{atom_of}
use Rattle.fo_file.specs.Written.{atom_tree}
use Rattle.fo_file.proofs.values.atom_trees.atoms.Given as goal

abbrev pub invariant-loop-value : goal.invariant-loop-value
invariant-loop-value l = map atom_of l.trees.items ≡ map (atom_tree l.theory) (take l.value-index l.values)
