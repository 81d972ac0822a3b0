use Rattle.std.proofs.Common.{arith, refl}
use Rattle.std.proofs.lemmas.Option.{slice_get-get_or}
use Rattle.cyc_basics.proofs.Members.{at_has, below_from}
use Rattle.cyc_basics.proofs.positions.are_below.Goals as goal

pub returns-then-position-ge-MOST_POSITIONS : goal.returns-then-position-ge-MOST_POSITIONS
returns-then-position-ge-MOST_POSITIONS c = (
  λ h. absurd cc,
  λ all. (
      let i = c.loop-position.position-index in
      let there = slice_get-get_or c.args.positions.now i 0 c.loop-position-test.true in
      absurd (omega (arith, all _ (at_has c.args.positions.now i _ there), c.if-position-ge-MOST_POSITIONS.true))),
)

pub returns : goal.returns
returns c = (
  λ h. below_from c.args.positions.now (λ k q l e. c.loop-position.invariant k q
      (omega (arith, l, c.loop-position-test.false)) e),
  λ all. refl,
)
