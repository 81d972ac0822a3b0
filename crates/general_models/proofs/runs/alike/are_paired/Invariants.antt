use Rattle.std.proofs.Common.{drop}
use Rattle.std.specs.Prelude.{◌↔◌}
use Rattle.general_models.specs.Growing.{IsPaired, EachPair}
use Rattle.general_models.proofs.runs.alike.are_paired.Given as goal

abbrev pub invariant-loop-i : goal.invariant-loop-i
invariant-loop-i l = EachPair (IsPaired l.pairs) l.befores l.afters
    ↔ EachPair (IsPaired l.pairs) (drop l.i l.befores) (drop l.i l.afters)
