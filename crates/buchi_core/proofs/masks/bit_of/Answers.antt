-- One bit, or none.
use Rattle.std.proofs.Common.{arith, sym, ◌∙◌}
use Rattle.std.proofs.lemmas.Bool.{ne_eqb}
use Rattle.buchi_core.proofs.Bits.{one_pow}
use Rattle.cyc_basics.proofs.Bits.{one_zero}
use Rattle.buchi_core.proofs.masks.bit_of.Goals as goal

pub returns-then-position-lt-MOST_POSITIONS : goal.returns-then-position-lt-MOST_POSITIONS
returns-then-position-lt-MOST_POSITIONS c q l = one_pow c.args.position q c.if-position-lt-MOST_POSITIONS.true

pub returns-else-position-lt-MOST_POSITIONS : goal.returns-else-position-lt-MOST_POSITIONS
returns-else-position-lt-MOST_POSITIONS c q l = one_zero q ∙ sym (ne_eqb c.args.position q
    (λ e. omega (arith, e, c.if-position-lt-MOST_POSITIONS.false)))
