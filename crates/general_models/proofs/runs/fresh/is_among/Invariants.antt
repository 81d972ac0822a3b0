use Rattle.std.proofs.Common.{drop}
use Rattle.std.specs.Prelude.{◌↔◌}
use Rattle.cyc_basics.specs.Words.{IsMember}
use Rattle.general_models.proofs.runs.fresh.is_among.Given as goal

abbrev pub invariant-loop-other : goal.invariant-loop-other
invariant-loop-other l = IsMember l.value l.values ↔ IsMember l.value (drop l.other-index l.values)
