use Rattle.std.proofs.Common.{◌≡◌}
use Rattle.std.specs.Prelude.{◌&&◌}
use Rattle.proof_picture.specs.Carried.{flags_to}
use Rattle.proof_picture.specs.Kept.{flag}
use Rattle.proof_picture.proofs.names.kept.both.Given as goal

-- The flags of the names so far.
abbrev pub invariant-loop-n : goal.invariant-loop-n
invariant-loop-n l = l.flags.items ≡ flags_to (λ n. flag l.before n && flag l.now n) l.n
