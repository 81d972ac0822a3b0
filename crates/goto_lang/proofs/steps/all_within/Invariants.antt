use Rattle.std.proofs.Common.{◌≤◌, drop}
use Rattle.std.specs.Prelude.{◌↔◌}
use Rattle.heap_formula.specs.Words.{Each}
use Rattle.goto_lang.proofs.steps.all_within.Given as goal

abbrev pub invariant-loop-value : goal.invariant-loop-value
invariant-loop-value l = Each (λ v. v ≤ l.most) l.values ↔ Each (λ v. v ≤ l.most) (drop l.value-index l.values)
