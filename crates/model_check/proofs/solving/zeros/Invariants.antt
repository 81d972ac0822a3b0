use Rattle.std.proofs.Common.{◌≡◌, replicate, vec_len}
use Rattle.model_check.proofs.solving.zeros.Given as goal

abbrev pub invariant-loop-i : goal.invariant-loop-i
invariant-loop-i l = record { value : l.times.items ≡ replicate l._i 0; count : vec_len l.times ≡ l._i }
