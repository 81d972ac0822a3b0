use Rattle.std.proofs.Common.{◌≡◌}
use Rattle.std.specs.Prelude.{replicate}
use Rattle.script_formulas.proofs.goals.widths.no_widths.Given as goal

abbrev pub invariant-loop : goal.invariant-loop
invariant-loop l = l.widths.items ≡ replicate l.counter 0
