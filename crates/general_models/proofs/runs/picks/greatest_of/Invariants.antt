use Rattle.std.proofs.Common.{◌≡◌, drop}
use Rattle.std.specs.Prelude.{max}
use Rattle.heap_formula.specs.Words.{max_of}
use Rattle.general_models.proofs.runs.picks.greatest_of.Given as goal

abbrev pub invariant-loop-value : goal.invariant-loop-value
invariant-loop-value l = max l.most (max_of (drop l.value-index l.values)) ≡ max_of l.values
