-- Each turn leaves a state, or takes one edge of it.
use Rattle.std.proofs.Common.{arith, ap}
use Rattle.buchi_inclusion.specs.Work.{unfound_work, way_work}
use Rattle.buchi_inclusion.proofs.Work.{left_state, went_on}
use Rattle.buchi_inclusion.proofs.ranks.descend.Goals as goal

pub loop-state-smaller-in-None : goal.loop-state-smaller-in-None
loop-state-smaller-in-None c =
    let w = left_state c.args.rows.now c.loop-state.search.way.items c.pop.new.self.items c.in-Some.state c.in-Some.edge
    c.in-Some.ensures.items in
    let a = ap (λ way. way_work c.args.rows.now way.items) c.leave.ensures.0 in
    let b = ap (λ numbers. unfound_work c.args.rows.now numbers.items) c.leave.ensures.1 in
    omega (arith, w, a, b)

pub loop-state-smaller-in-Continue-branch-3 : goal.loop-state-smaller-in-Continue-branch-3
loop-state-smaller-in-Continue-branch-3 c =
    let w = went_on c.args.rows.now c.loop-state.search.way.items c.pop.new.self.items c.push.new.self.items
    c.in-Some.state c.in-Some.edge c.in-Some-edge_of.ensures c.in-Some.ensures.items
    c.in_ok-push-in-Some-edge_of.ensures.items in
    let f = c.in_ok-follow-in-Some-edge_of.ensures c.args.rows.now in
    omega (arith, w, f)

pub loop-state-smaller : goal.loop-state-smaller
loop-state-smaller c =
    let w = went_on c.args.rows.now c.loop-state.search.way.items c.pop.new.self.items c.push.new.self.items
    c.in-Some.state c.in-Some.edge c.in-Some-edge_of.ensures c.in-Some.ensures.items
    c.in_ok-push-in-Some-edge_of.ensures.items in
    omega (arith, w)
