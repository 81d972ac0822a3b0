use Rattle.std.proofs.Common.{◌≡◌, ◌≤◌, ◌+◌, map, drop}
use Rattle.fo_rules.specs.Capping.{capped}
use Rattle.fo_formula.specs.Words.{replaced}
use Rattle.fo_formula.specs.Sizes.{words_size}
use Rattle.fo_rules.specs.Putting.{put}
use Rattle.fo_rules.proofs.parts.sizes.size_of_changed_terms.Given as goal

abbrev pub invariant-loop-term : goal.invariant-loop-term
invariant-loop-term l = (l.size ≤ 4097) × (capped (l.size + words_size
    (map (replaced (put l.change)) (drop l.term-index l.terms)))
    ≡ capped (words_size (map (replaced (put l.change)) l.terms)))
