use Rattle.std.proofs.Common.{◌≡◌, ◌-◌, ◌<◌, ℕ, length}
use Rattle.heap_formula.specs.Words.{Each}
use Rattle.sat_pairs.specs.Growth.{total, IsPartOf}
use Rattle.sat_pairs.specs.Turns.{HasTurns, IsTurn}
use Rattle.sat_pairs.proofs.rounds.base_pairs.Given as goal

abbrev pub invariant-loop-agenda : goal.invariant-loop-agenda
invariant-loop-agenda l = record {
  part : IsPartOf l.defs.list l.limits.pairs l.table;
  count : l.count ≡ total l.table;
  turns : Each (IsTurn l.defs.list l.limits.states l.table l.cell.items) l.turns.items;
  all : (p : ℕ) → p < length l.defs.list → HasTurns l.defs.list p l.turns.items;
}

abbrev pub decreases-loop-agenda : goal.decreases-loop-agenda
decreases-loop-agenda l = l.limits.pairs - l.count
