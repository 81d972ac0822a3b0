use Rattle.std.proofs.Common.{◌≡◌, ◌++◌, drop}
use Rattle.search_moves.specs.Places.{each_from}
use Rattle.search_moves.specs.Kinds.{is_cell}
use Rattle.search_moves.specs.Entailments.{frames_if, cell_frames}
use Rattle.search_moves.proofs.places.cell_frames.Given as goal

abbrev pub invariant-loop-i : goal.invariant-loop-i
invariant-loop-i l = l.rules.items ++ each_from (λ i x. frames_if l.right i (is_cell x)) l.i (drop l.i l.left)
    ≡ cell_frames l.left l.right
