use Rattle.std.proofs.Common.{◌≡◌, map, drop}
use Rattle.proof_picture.specs.Hidden.{hide_all}
use Rattle.proof_picture.specs.Arrows.{drawn_of}
use Rattle.proof_picture.proofs.folds.hidden.hide_all.Given as goal

-- The flags so far, with the edges that are left.
abbrev pub invariant-loop-arrow : goal.invariant-loop-arrow
invariant-loop-arrow l = hide_all l.flags (map drawn_of (drop l.arrow-index l.arrows))
    ≡ hide_all l.fn.flags (map drawn_of l.arrows)
