use Rattle.std.proofs.Common.{◌≡◌, ◌≤◌, ◌+◌, drop, length}
use Rattle.fo_rules.specs.Capping.{capped}
use Rattle.fo_formula.specs.Words.{replaced}
use Rattle.fo_rules.specs.Putting.{put}
use Rattle.fo_rules.proofs.parts.sizes.size_of_changed_word.Given as goal

abbrev pub invariant-loop-sign : goal.invariant-loop-sign
invariant-loop-sign l = (l.size ≤ 4097) × (capped (l.size + length (replaced (put l.change) (drop l.sign-index l.word)))
    ≡ capped (length (replaced (put l.change) l.word)))
