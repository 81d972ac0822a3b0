use Rattle.std.proofs.Common.{ℕ, ◌<◌}
use Rattle.heap_formula.specs.Words.{Each}
use Rattle.sat_pairs.specs.Turns.{HasTurns, IsNewTurn}
use Rattle.sat_pairs.proofs.turns.turns_of.Given as goal

abbrev pub invariant-loop-pred : goal.invariant-loop-pred
invariant-loop-pred l = record {
  new : Each (IsNewTurn l.defs.list l.most) l.turns.items;
  all : (p : ℕ) → p < l.pred → HasTurns l.defs.list p l.turns.items;
}
