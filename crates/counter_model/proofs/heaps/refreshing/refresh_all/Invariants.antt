use Rattle.std.proofs.Common.{◌<◌, ℕ}
use Rattle.counter_model.specs.Findings.{IsSettled, UnlessGrown}
use Rattle.counter_model.proofs.heaps.refreshing.refresh_all.Given as goal

abbrev pub invariant-loop-q : goal.invariant-loop-q
invariant-loop-q l = UnlessGrown l.grown l.initial.table l.table
    ((q : ℕ) → q < l.q → IsSettled l.defs.list l.greatest l.initial.table q)
