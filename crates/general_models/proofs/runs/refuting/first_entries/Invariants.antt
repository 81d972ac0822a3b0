use Rattle.std.proofs.Common.{◌≡◌}
use Rattle.heap_formula.specs.Programs.{first_values}
use Rattle.general_models.proofs.runs.refuting.first_entries.Given as goal

abbrev pub invariant-loop-i : goal.invariant-loop-i
invariant-loop-i l = l.values.items ≡ first_values l.i l.stack
