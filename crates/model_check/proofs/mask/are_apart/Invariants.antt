use Rattle.std.proofs.Common.{drop, ◌↔◌}
use Rattle.model_check.specs.WideMasks.{AreApart}
use Rattle.model_check.proofs.mask.are_apart.Given as goal

abbrev pub invariant-loop-i : goal.invariant-loop-i
invariant-loop-i l = AreApart l.words l.others ↔ AreApart (drop l.i l.words) (drop l.i l.others)
