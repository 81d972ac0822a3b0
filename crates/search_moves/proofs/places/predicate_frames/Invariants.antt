use Rattle.std.proofs.Common.{◌≡◌, ◌++◌, drop}
use Rattle.search_moves.specs.Places.{each_from}
use Rattle.search_moves.specs.Kinds.{is_predicate}
use Rattle.search_moves.specs.Entailments.{frames_if, predicate_frames}
use Rattle.search_moves.proofs.places.predicate_frames.Given as goal

abbrev pub invariant-loop-i : goal.invariant-loop-i
invariant-loop-i l = l.rules.items ++ each_from (λ i x. frames_if l.right i (is_predicate x)) l.i (drop l.i l.left)
    ≡ predicate_frames l.left l.right
