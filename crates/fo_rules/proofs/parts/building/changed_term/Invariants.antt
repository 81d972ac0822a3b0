use Rattle.std.proofs.Common.{◌≡◌, ◌++◌, drop}
use Rattle.fo_formula.specs.Words.{replaced}
use Rattle.fo_rules.specs.Putting.{put}
use Rattle.fo_rules.proofs.parts.building.changed_term.Given as goal

abbrev pub invariant-loop-sign : goal.invariant-loop-sign
invariant-loop-sign l = l.signs.items ++ replaced (put l.change) (drop l.sign-index l.sign-items)
    ≡ replaced (put l.change) l.sign-items
