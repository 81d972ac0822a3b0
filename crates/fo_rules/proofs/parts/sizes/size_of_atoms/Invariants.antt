use Rattle.std.proofs.Common.{◌≡◌, ◌≤◌, ◌+◌, drop}
use Rattle.fo_rules.specs.Capping.{capped}
use Rattle.fo_formula.specs.Sizes.{atoms_size}
use Rattle.fo_rules.proofs.parts.sizes.size_of_atoms.Given as goal

abbrev pub invariant-loop-atom : goal.invariant-loop-atom
invariant-loop-atom l = (l.size ≤ 4097) × (capped (l.size + atoms_size (drop l.atom-index l.atoms))
    ≡ capped (atoms_size l.atoms))
