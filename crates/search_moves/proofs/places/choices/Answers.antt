use Rattle.search_moves.proofs.FoldPlaces.{placed}
use Rattle.search_moves.specs.Entailments.{choice_at}
use Rattle.search_moves.proofs.places.choices.Goals as goal

pub loop-k-preserved : goal.loop-k-preserved
loop-k-preserved c =
    placed choice_at c.args.heaps.now c.loop-k.k c.index-heaps-k.result c.loop-k.rules.items c.push.new.self.items _
    c.loop-k-test.true c.in_ok-push.ensures.items c.loop-k.invariant
