use Rattle.std.proofs.Common.{◌≡◌, ◌++◌, ◌-◌, drop}
use Rattle.model_check.specs.WideMasks.{or_words}
use Rattle.model_check.proofs.mask.united.Given as goal

abbrev pub invariant-loop-i : goal.invariant-loop-i
invariant-loop-i l = l.out.items ++ or_words (l.width - l.i) (drop l.i l.words) (drop l.i l.others)
    ≡ or_words l.width l.words l.others
