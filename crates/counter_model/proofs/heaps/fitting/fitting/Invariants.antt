use Rattle.std.proofs.Common.{◌≤◌}
use Rattle.counter_model.specs.Findings.{size}
use Rattle.counter_model.proofs.heaps.fitting.fitting.Given as goal

abbrev pub invariant-loop-turn : goal.invariant-loop-turn
invariant-loop-turn l = l._turn ≤ size l.table
