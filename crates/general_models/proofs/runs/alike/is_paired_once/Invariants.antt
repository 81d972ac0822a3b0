use Rattle.std.proofs.Common.{drop}
use Rattle.std.specs.Prelude.{◌↔◌}
use Rattle.general_models.specs.Growing.{IsPairedOnce}
use Rattle.general_models.proofs.runs.alike.is_paired_once.Given as goal

abbrev pub invariant-loop-other : goal.invariant-loop-other
invariant-loop-other l = IsPairedOnce l.pairs l.pair ↔ IsPairedOnce (drop l.other-index l.pairs) l.pair
