use Rattle.std.proofs.Common.{sym}
use Rattle.heap_formula.proofs.Places.{before-below, before-above}
use Rattle.fo_rules.proofs.parts.pairing.place_before.Goals as goal

pub returns-then-new-i-clause-value : goal.returns-then-new-i-clause-value
returns-then-new-i-clause-value c = sym (before-below _ _ c.if-new-i.true)

pub returns-else-new-i-clause-value : goal.returns-else-new-i-clause-value
returns-else-new-i-clause-value c = sym (before-above _ _ c.if-new-i.false)
