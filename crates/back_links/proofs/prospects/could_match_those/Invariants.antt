use Rattle.std.proofs.Common.{◌≡◌, ◌≤◌, drop, length}
use Rattle.back_links.specs.Prospects.{could_match_those}
use Rattle.back_links.proofs.prospects.could_match_those.Given as goal

abbrev pub invariant-loop-i : goal.invariant-loop-i
invariant-loop-i l = (could_match_those l.n l.pures l.atoms l.pairs (drop l.i l.places) (drop l.i l.xs)
    ≡ could_match_those l.n l.pures l.atoms l.pairs l.places l.xs) × (l.i ≤ length l.xs)
