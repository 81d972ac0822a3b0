use Rattle.std.proofs.Common.{◌≡◌, map, drop}
use Rattle.proof_picture.specs.Entries.{enter_all}
use Rattle.proof_picture.specs.Arrows.{drawn_of}
use Rattle.proof_picture.proofs.folds.entries.enter_arrows.Given as goal

-- The entries so far, with the edges that are left.
abbrev pub invariant-loop-arrow : goal.invariant-loop-arrow
invariant-loop-arrow l = enter_all l.entries (map drawn_of (drop l.arrow-index l.arrows))
    ≡ enter_all l.fn.entries (map drawn_of l.arrows)
