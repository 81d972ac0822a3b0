use Rattle.std.proofs.Common.{arith}
use Rattle.pair_family.proofs.Near.{added}
use Rattle.pair_family.proofs.states.near.add_near.Goals as goal

pub returns-then-place-lt64-clause-added : goal.returns-then-place-lt64-clause-added
returns-then-place-lt64-clause-added c p q lp lq =
    added c.args.near.now c.args.label c.args.other c.bit_of.result p q
    (omega (arith, c.requires.long, c.if-place-lt64.true)) (c.bit_of.ensures q lq)
