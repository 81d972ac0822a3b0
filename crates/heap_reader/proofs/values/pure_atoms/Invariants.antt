use Rattle.std.proofs.Common.{◌≡◌, drop, take, map}
use Rattle.heap_formula.specs.Words.{Each}
use Rattle.heap_reader.specs.Small.{IsSmallPure}
use Rattle.heap_reader.specs.Values.{pure_value}
use Rattle.heap_reader.proofs.values.pure_atoms.Given as goal

abbrev pub invariant-loop-tree : goal.invariant-loop-tree
invariant-loop-tree g l =
    (l.atoms.items ≡ map (pure_value g.F.TermReader.value) (take l.tree-index l.trees))
    × Each (IsSmallPure g.F.TermReader.value) (drop l.tree-index l.trees)
