use Rattle.std.proofs.Common.{◌≡◌, ◌++◌, map, drop}
use Rattle.proof_picture.specs.Arrows.{row_of, rows_from, rows_of}
use Rattle.proof_picture.specs.Red.{step_in}
use Rattle.proof_picture.proofs.arrows.rows.Given as goal

-- The rows so far, and those of the nodes that are left.
abbrev pub invariant-loop-v : goal.invariant-loop-v
invariant-loop-v l =
    map row_of l.rows.items ++ rows_from l.file (step_in l.steps.steps.keys) l.v (drop l.v l.file.nodes)
    ≡ rows_of l.file (step_in l.steps.steps.keys)
