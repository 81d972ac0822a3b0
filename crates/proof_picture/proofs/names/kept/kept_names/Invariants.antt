use Rattle.std.proofs.Common.{◌≡◌, ◌++◌, map, drop}
use Rattle.heap_formula.specs.Programs.{program_variables}
use Rattle.proof_picture.specs.Arrows.{row_of}
use Rattle.proof_picture.specs.Carried.{flags_of}
use Rattle.proof_picture.specs.Kept.{kept_from, kept_names}
use Rattle.proof_picture.proofs.names.kept.kept_names.Given as goal

-- The names of the nodes so far, and those of the nodes that are left.
abbrev pub invariant-loop-v : goal.invariant-loop-v
invariant-loop-v l =
    map flags_of l.all.items ++ kept_from l.count (program_variables l.file.program) (map flags_of l.ways.items) l.v
    (drop l.v l.file.nodes) (map row_of (drop l.v l.rows)) ≡ kept_names l.count l.file (map row_of l.rows)
