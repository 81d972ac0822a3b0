use Rattle.std.proofs.Common.{◌≡◌, ◌-◌, drop, map, length}
use Rattle.proof_picture.specs.Arrows.{row_of}
use Rattle.proof_picture.specs.Carried.{flags_of, table}
use Rattle.proof_picture.proofs.carried.atoms_carried.Given as goal

-- The flags of the last nodes.
abbrev pub invariant-loop-done : goal.invariant-loop-done
invariant-loop-done l = map flags_of l.behind.items
    ≡ table (length l.rows - l.done) (map row_of (drop (length l.rows - l.done) l.rows))
