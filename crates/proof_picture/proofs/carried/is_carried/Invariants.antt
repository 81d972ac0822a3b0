use Rattle.std.proofs.Common.{◌≡◌, drop, map}
use Rattle.proof_picture.specs.Arrows.{drawn_of}
use Rattle.proof_picture.specs.Carried.{flags_of, is_carried}
use Rattle.proof_picture.proofs.carried.is_carried.Given as goal

-- Along none of the edges so far a trace goes on to a link.
abbrev pub invariant-loop-arrow : goal.invariant-loop-arrow
invariant-loop-arrow l =
    is_carried (map flags_of l.behind.items) l.v (map drawn_of (drop l.arrow-index l.arrows)) l.atom
    ≡ is_carried (map flags_of l.behind.items) l.v (map drawn_of l.arrows) l.atom
