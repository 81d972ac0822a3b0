use Rattle.std.proofs.Common.{◌≡◌, map, drop}
use Rattle.proof_picture.specs.Fates.{count_along}
use Rattle.proof_picture.specs.Arrows.{drawn_of}
use Rattle.proof_picture.proofs.folds.fates.count_behind.Given as goal

-- The nodes so far, with those that are left.
abbrev pub invariant-loop-arrow : goal.invariant-loop-arrow
invariant-loop-arrow l =
    count_along l.entries l.behind.items l.v l.count (map drawn_of (drop l.arrow-index l.arrows))
    ≡ count_along l.entries l.behind.items l.v 1 (map drawn_of l.arrows)
