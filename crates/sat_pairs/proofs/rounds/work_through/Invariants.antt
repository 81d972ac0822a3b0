use Rattle.std.proofs.Common.{◌≡◌, map}
use Rattle.heap_formula.specs.Words.{Each}
use Rattle.sat_pairs.specs.Growth.{total, IsPartOf, IsGrown}
use Rattle.sat_pairs.specs.Turns.{IsTurn, case_of}
use Rattle.sat_pairs.proofs.rounds.work_through.Given as goal

abbrev pub invariant-loop-turn : goal.invariant-loop-turn
invariant-loop-turn l = record {
  part : IsPartOf l.defs.list l.limits.pairs l.table;
  count : l.now ≡ total l.table;
  grown : IsGrown l.fn.table l.table;
  same : map case_of l.turns.items ≡ map case_of l.fn.turns.items;
  turns : Each (IsTurn l.defs.list l.limits.states l.table l.cell) l.turns.items;
}
