use Rattle.std.proofs.Common.{◌≡◌, map, drop}
use Rattle.proof_picture.specs.Arrows.{drawn_of, row_of}
use Rattle.proof_picture.specs.Carried.{flags_of}
use Rattle.proof_picture.specs.Kept.{come_all}
use Rattle.proof_picture.proofs.names.kept.come_all.Given as goal

-- What came so far, and what comes along the edges that are left.
abbrev pub invariant-loop-arrow : goal.invariant-loop-arrow
invariant-loop-arrow l =
    come_all l.count l.v l.row.premises l.names (map flags_of l.ways)
    (map drawn_of (drop l.arrow-index l.row.arrows.items))
    ≡ come_all l.count l.v l.row.premises l.names (map flags_of l.fn.ways) (map drawn_of l.row.arrows.items)
