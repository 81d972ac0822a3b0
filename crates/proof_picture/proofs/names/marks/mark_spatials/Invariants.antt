use Rattle.std.proofs.Common.{◌≡◌, drop}
use Rattle.proof_picture.specs.Marks.{marked_spatials}
use Rattle.proof_picture.proofs.names.marks.mark_spatials.Given as goal

abbrev pub invariant-loop-atom : goal.invariant-loop-atom
invariant-loop-atom l = marked_spatials l.flags (drop l.atom-index l.atoms) ≡ marked_spatials l.fn.flags l.atoms
