use Rattle.std.proofs.Common.{◌∙◌, length, subst}
use Rattle.fo_search.specs.Choosing.{does}
use Rattle.fo_search.specs.Walks.{IsSeen}
use Rattle.fo_search.proofs.Beginnings.{left_deeper, nodes_deeper}
use Rattle.fo_search.proofs.moves.walking.seek.Goals as goal

pub loop-walk-smaller : goal.loop-walk-smaller
loop-walk-smaller c =
    let s = c.args.search.now in
    let w = c.loop-walk.walk in
    let seen = subst (IsSeen s.wanted s.values.now w) c.in-Deeper.is c.in_ok-look.ensures in
    nodes_deeper (length s.values.now)
    w.is_over w.count w.places.items c.push.new.self.items c.loop-walk-test.true
    c.in_ok-push-in-Deeper.ensures.items seen.0 seen.1

pub loop-walk-preserved : goal.loop-walk-preserved
loop-walk-preserved c =
    let s = c.args.search.now in
    let w = c.loop-walk.walk in
    let seen = subst (IsSeen s.wanted s.values.now w) c.in-Deeper.is c.in_ok-look.ensures in
    left_deeper (does s.wanted)
    s.values.now w.is_over w.count w.places.items c.push.new.self.items c.in_ok-push-in-Deeper.ensures.items seen.0
    seen.1
    ∙ c.loop-walk.invariant
