use Rattle.std.proofs.Common.{drop}
use Rattle.std.specs.Prelude.{◌↔◌}
use Rattle.heap_formula.specs.Words.{Each}
use Rattle.general_models.specs.Growing.{HasLikeCell}
use Rattle.general_models.proofs.runs.alike.has_like_cells.Given as goal

abbrev pub invariant-loop-pair : goal.invariant-loop-pair
invariant-loop-pair l = Each (HasLikeCell l.pairs l.one l.other) l.pairs
    ↔ Each (HasLikeCell l.pairs l.one l.other) (drop l.pair-index l.pairs)
