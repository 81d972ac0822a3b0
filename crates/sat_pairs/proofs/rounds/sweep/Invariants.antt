use Rattle.std.proofs.Common.{◌≡◌, map, take}
use Rattle.heap_formula.specs.Words.{Each}
use Rattle.sat_pairs.specs.Growth.{total, IsPartOf, IsGrown}
use Rattle.sat_pairs.specs.Turns.{IsDone, IsTurn, case_of}
use Rattle.sat_pairs.proofs.rounds.sweep.Given as goal

abbrev pub invariant-loop-place : goal.invariant-loop-place
invariant-loop-place l = record {
  part : IsPartOf l.defs.list l.limits.pairs l.table;
  count : l.now ≡ total l.table;
  grown : IsGrown l.fn.table l.table;
  same : map case_of l.turns.items ≡ map case_of l.fn.turns.items;
  turns : Each (IsTurn l.defs.list l.limits.states l.table l.cell) l.turns.items;
  done : Each (IsDone l.defs.list l.limits.states l.fn.table l.table) (take l.place l.turns.items);
}
