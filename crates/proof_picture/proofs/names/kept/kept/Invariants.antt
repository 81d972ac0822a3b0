use Rattle.std.proofs.Common.{◌≡◌}
use Rattle.proof_picture.specs.Carried.{flags_to}
use Rattle.proof_picture.specs.Kept.{is_kept}
use Rattle.proof_picture.proofs.names.kept.kept.Given as goal

-- The flags of the names so far.
abbrev pub invariant-loop-n : goal.invariant-loop-n
invariant-loop-n l = l.flags.items ≡ flags_to (is_kept l.p l.came l.judgement) l.n
