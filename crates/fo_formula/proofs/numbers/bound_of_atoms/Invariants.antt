use Rattle.std.proofs.Common.{◌≡◌, ◌≤◌, map, drop}
use Rattle.std.specs.Prelude.{max}
use Rattle.heap_formula.specs.Words.{max_of}
use Rattle.fo_formula.specs.Bounds.{atom_bound}
use Rattle.fo_formula.proofs.numbers.bound_of_atoms.Given as goal

abbrev pub invariant-loop-atom : goal.invariant-loop-atom
invariant-loop-atom l = (l.most ≤ 65536) × (max l.most (max_of (map (atom_bound l.kind) (drop l.atom-index l.atoms)))
    ≡ max_of (map (atom_bound l.kind) l.atoms))
