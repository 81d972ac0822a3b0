use Rattle.std.proofs.Common.{◌≡◌, ◌++◌, drop}
use Rattle.search_moves.specs.Places.{each_from}
use Rattle.search_moves.specs.Entailments.{frame_at, frames_from}
use Rattle.search_moves.proofs.places.push_frames.Given as goal

abbrev pub invariant-loop-k : goal.invariant-loop-k
invariant-loop-k l = l.rules.items ++ each_from (frame_at l.i) l.k (drop l.k l.right) ≡ l.initial.rules.items
    ++ frames_from l.right l.i
