use Rattle.std.proofs.Common.{◌≡◌, drop}
use Rattle.script_formulas.specs.Sorts.{have_sorts}
use Rattle.script_formulas.proofs.goals.sorts.have_sorts.Given as goal

abbrev pub invariant-loop-place : goal.invariant-loop-place
invariant-loop-place l = have_sorts l.known l.bound l.terms l.sorts
    ≡ have_sorts l.known l.bound (drop l.place l.terms) (drop l.place l.sorts)
