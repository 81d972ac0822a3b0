use Rattle.std.proofs.Common.{◌-◌}
use Rattle.counter_model.specs.Findings.{UnlessGrown}
use Rattle.counter_model.proofs.Locals.{AreTried}
use Rattle.counter_model.proofs.heaps.refreshing.+refresh_behind.Given as goal

abbrev pub invariant-loop-value : goal.invariant-loop-value
invariant-loop-value l = UnlessGrown l.grown l.initial.table l.table
    (AreTried l.greatest l.q l.values l.case l.locals (l.left - 1) l.value l.initial.table)

abbrev pub decreases-refresh_behind : goal.decreases-refresh_behind
decreases-refresh_behind l = l.left
