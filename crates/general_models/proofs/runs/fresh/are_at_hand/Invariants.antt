use Rattle.std.proofs.Common.{drop}
use Rattle.std.specs.Prelude.{◌↔◌}
use Rattle.heap_formula.specs.Words.{Each}
use Rattle.general_models.specs.Growing.{IsAtHand}
use Rattle.general_models.proofs.runs.fresh.are_at_hand.Given as goal

abbrev pub invariant-loop-value : goal.invariant-loop-value
invariant-loop-value l = Each (IsAtHand l.address l.stack) l.values
    ↔ Each (IsAtHand l.address l.stack) (drop l.value-index l.values)
