-- One mask gets the position.
use Rattle.std.proofs.Common.{arith, refl}
use Rattle.buchi_core.proofs.Moves.{led_more}
use Rattle.buchi_core.proofs.masks.add_lead.Goals as goal

pub returns-then-place-lt-MOST_ENTRIES : goal.returns-then-place-lt-MOST_ENTRIES
returns-then-place-lt-MOST_ENTRIES c p q lp lq =
    led_more c.args.table.now _ _ c.args.old c.args.new c.bit_of-then-place-lt-MOST_ENTRIES.result c.targets_at.result
    c.bit_of.result p q (omega (arith, c.if-place-lt-MOST_ENTRIES.true))
    (c.bit_of-then-place-lt-MOST_ENTRIES.ensures p lp) (c.bit_of.ensures q lq) (c.targets_at.ensures q) refl refl
