use Rattle.std.proofs.Common.{◌≡◌, true}
use Rattle.proof_picture.specs.Carried.{flags_to}
use Rattle.proof_picture.proofs.names.kept.all.Given as goal

abbrev pub invariant-loop-n : goal.invariant-loop-n
invariant-loop-n l = l.flags.items ≡ flags_to (λ n. true) l._n
