use Rattle.search_moves.proofs.FoldPlaces.{placed}
use Rattle.fo_search.specs.Before.{axiom_at}
use Rattle.fo_search.proofs.moves.before.push_axioms.Goals as goal

pub loop-j-preserved : goal.loop-j-preserved
loop-j-preserved c =
    placed (axiom_at c.args.left)
    c.args.atoms.now c.loop-j.j c.index-atoms-j.result c.loop-j.rules.items c.push.new.self.items _
    c.loop-j-test.true c.in_ok-push.ensures.items c.loop-j.invariant
