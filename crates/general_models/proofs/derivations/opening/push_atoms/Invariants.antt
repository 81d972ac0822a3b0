use Rattle.std.proofs.Common.{◌≡◌, ◌++◌, drop}
use Rattle.std.specs.Prelude.{reverse}
use Rattle.general_models.specs.Derivations.{atoms_of}
use Rattle.general_models.proofs.derivations.opening.push_atoms.Given as goal

abbrev pub invariant-loop-place : goal.invariant-loop-place
invariant-loop-place l = reverse l.pending.items ≡ atoms_of l.stack l.locals (drop l.place l.atoms)
    ++ reverse l.initial.pending.items
