use Rattle.std.proofs.Common.{◌≡◌, map}
use Rattle.proof_picture.specs.Arrows.{row_of}
use Rattle.proof_picture.specs.Carried.{flags_of, flags_to, is_carried}
use Rattle.proof_picture.proofs.carried.flags_at.Given as goal

-- The flags of the atoms so far.
abbrev pub invariant-loop-atom : goal.invariant-loop-atom
invariant-loop-atom l = l.flags.items ≡ flags_to (is_carried (map flags_of l.behind.items) l.v (row_of l.row).arrows)
    l.atom
