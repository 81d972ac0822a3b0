use Rattle.std.proofs.Common.{drop}
use Rattle.std.specs.Prelude.{◌↔◌}
use Rattle.heap_formula.specs.Meaning.{SatisfiesOne}
use Rattle.general_models.proofs.refuting.none_satisfied.Given as goal

abbrev pub invariant-loop-ask : goal.invariant-loop-ask
invariant-loop-ask l = SatisfiesOne l.defs.list l.stack l.heap l.asks
    ↔ SatisfiesOne l.defs.list l.stack l.heap (drop l.ask-index l.asks)
