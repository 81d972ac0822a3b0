use Rattle.std.proofs.Common.{◌≡◌, drop}
use Rattle.std.specs.Prelude.{map, reverse}
use Rattle.fo_syntax.specs.Trees.{sign_of}
use Rattle.fo_syntax.specs.Seen.{mark_seen}
use Rattle.fo_syntax.specs.Brackets.{counted}
use Rattle.fo_syntax.proofs.terms.counting.applied.Given as goal

abbrev pub invariant-loop-place : goal.invariant-loop-place
invariant-loop-place l = (reverse (map sign_of l.signs.items), l.counts)
    ≡ counted (drop l.place (map mark_seen l.marks))
