use Rattle.std.proofs.Common.{ℕ, ◌<◌, map}
use Rattle.heap_formula.specs.Words.{Each}
use Rattle.cyc_basics.specs.Words.{IsMember}
use Rattle.sat_pairs.specs.Turns.{HasTurns, IsNewTurn, case_of}
use Rattle.sat_pairs.proofs.turns.push_turns.Given as goal

abbrev pub invariant-loop-place : goal.invariant-loop-place
invariant-loop-place l = record {
  new : Each (IsNewTurn l.defs.list l.most) l.turns.items;
  had : (p : ℕ) → HasTurns l.defs.list p l.fn.turns.items → HasTurns l.defs.list p l.turns.items;
  has : (i : ℕ) → i < l.place → IsMember {X = ℕ × ℕ} (l.pred, i) (map case_of l.turns.items);
}
