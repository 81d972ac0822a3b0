use Rattle.std.proofs.Common.{◌≡◌, drop}
use Rattle.pred_defs.specs.Faults.{first_fault, use_fault}
use Rattle.pred_defs.proofs.library.fault_of_atoms.Given as goal

abbrev pub invariant-loop-atom : goal.invariant-loop-atom
invariant-loop-atom l = first_fault (use_fault l.defs) (drop l.atom-index l.atoms)
    ≡ first_fault (use_fault l.defs) l.atoms
