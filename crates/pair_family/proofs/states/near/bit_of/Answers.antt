use Rattle.pair_family.proofs.Near.{one_pow}
use Rattle.pair_family.proofs.states.near.bit_of.Goals as goal

pub returns-then-label-lt64 : goal.returns-then-label-lt64
returns-then-label-lt64 c q l = one_pow c.args.label q c.if-label-lt64.true
