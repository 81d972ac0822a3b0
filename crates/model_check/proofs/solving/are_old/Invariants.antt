use Rattle.std.proofs.Common.{drop, ◌↔◌}
use Rattle.heap_formula.specs.Words.{Each}
use Rattle.model_check.specs.Tables.{IsOld}
use Rattle.model_check.proofs.solving.are_old.Given as goal

abbrev pub invariant-loop-piece : goal.invariant-loop-piece
invariant-loop-piece l = Each (IsOld l.grown l.time) l.pieces
    ↔ Each (IsOld l.grown l.time) (drop l.piece-index l.pieces)
