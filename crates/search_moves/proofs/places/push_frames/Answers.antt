use Rattle.search_moves.proofs.FoldPlaces.{placed}
use Rattle.search_moves.specs.Entailments.{frame_at}
use Rattle.search_moves.proofs.places.push_frames.Goals as goal

pub loop-k-preserved : goal.loop-k-preserved
loop-k-preserved c =
    placed (frame_at c.args.i)
    c.args.right.now c.loop-k.k c.index-right-k.result c.loop-k.rules.items c.push.new.self.items _
    c.loop-k-test.true c.in_ok-push.ensures.items c.loop-k.invariant
