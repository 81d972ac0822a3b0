use Rattle.std.proofs.Common.{◌≡◌, drop}
use Rattle.proof_picture.specs.Marks.{marked_pures}
use Rattle.proof_picture.proofs.names.marks.mark_pures.Given as goal

abbrev pub invariant-loop-atom : goal.invariant-loop-atom
invariant-loop-atom l = marked_pures l.flags (drop l.atom-index l.atoms) ≡ marked_pures l.fn.flags l.atoms
