use Rattle.general_models.specs.Ranges.{IsRange}
use Rattle.general_models.proofs.ranges.with_fresh.Given as goal

abbrev pub invariant-loop-i : goal.invariant-loop-i
invariant-loop-i l = IsRange l.range.items l.numbers l.base l.i
