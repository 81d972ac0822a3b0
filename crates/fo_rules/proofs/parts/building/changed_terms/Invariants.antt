use Rattle.std.proofs.Common.{◌≡◌, ◌++◌, map, drop}
use Rattle.fo_formula.specs.Words.{replaced}
use Rattle.fo_rules.specs.Putting.{put}
use Rattle.fo_rules.proofs.parts.building.changed_terms.Given as goal

abbrev pub invariant-loop-term : goal.invariant-loop-term
invariant-loop-term l = l.all.items ++ map (replaced (put l.change)) (drop l.term-index l.terms)
    ≡ map (replaced (put l.change)) l.terms
