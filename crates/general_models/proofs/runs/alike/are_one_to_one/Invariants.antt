use Rattle.std.proofs.Common.{drop}
use Rattle.std.specs.Prelude.{◌↔◌}
use Rattle.heap_formula.specs.Words.{Each}
use Rattle.general_models.specs.Growing.{IsPairedOnce}
use Rattle.general_models.proofs.runs.alike.are_one_to_one.Given as goal

abbrev pub invariant-loop-pair : goal.invariant-loop-pair
invariant-loop-pair l = Each (IsPairedOnce l.pairs) l.pairs
    ↔ Each (IsPairedOnce l.pairs) (drop l.pair-index l.pairs)
