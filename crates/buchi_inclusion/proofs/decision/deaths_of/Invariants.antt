use Rattle.std.proofs.Common.{◌≡◌, ◌≤◌, ◌<◌, ℕ, Some, slice_get, Vec, Global}
use Rattle.buchi_core.specs.declared.event.Event.TheVariants.{Dies}
use Rattle.buchi_inclusion.specs.declared.product.Transition.{Transition}
use Rattle.buchi_inclusion.specs.Decision.{IsAbsent}
use Rattle.buchi_inclusion.proofs.decision.deaths_of.Given as goal

abbrev pub invariant-loop-row : goal.invariant-loop-row
invariant-loop-row l = (p : ℕ) → l.above ≤ p → (q : ℕ) (row : Vec Transition Global) → q < l.row-index
    → slice_get l.rows q ≡ Some row → IsAbsent (Dies p) row.items
