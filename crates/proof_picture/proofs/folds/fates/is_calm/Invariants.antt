use Rattle.std.proofs.Common.{◌≡◌, map, drop}
use Rattle.proof_picture.specs.Fates.{is_calm}
use Rattle.proof_picture.specs.Arrows.{drawn_of}
use Rattle.proof_picture.proofs.folds.fates.is_calm.Given as goal

-- It is asked of the edges that are left.
abbrev pub invariant-loop-arrow : goal.invariant-loop-arrow
invariant-loop-arrow l = is_calm (map drawn_of (drop l.arrow-index l.arrows)) ≡ is_calm (map drawn_of l.arrows)
