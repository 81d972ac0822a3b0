use Rattle.std.proofs.Common.{drop}
use Rattle.std.specs.Prelude.{◌↔◌}
use Rattle.general_models.specs.Growing.{IsPaired}
use Rattle.general_models.proofs.runs.alike.is_paired.Given as goal

abbrev pub invariant-loop-pair : goal.invariant-loop-pair
invariant-loop-pair l = IsPaired l.pairs l.before l.after ↔ IsPaired (drop l.pair-index l.pairs) l.before l.after
