use Rattle.std.proofs.Common.{◌<◌, ℕ}
use Rattle.buchi_core.specs.declared.event.Event.TheVariants.{Dies}
use Rattle.buchi_inclusion.specs.Table.{states_of}
use Rattle.buchi_inclusion.specs.Decision.{IsGoodClass}
use Rattle.buchi_inclusion.proofs.decision.decide.Given as goal

abbrev pub invariant-loop-place : goal.invariant-loop-place
invariant-loop-place l = (k : ℕ) → k < l.place → IsGoodClass l.graph (states_of l.table.states) l.table.rows.items
    (Dies k)
