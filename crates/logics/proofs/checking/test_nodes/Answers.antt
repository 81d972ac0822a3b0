use Rattle.std.proofs.Common.{[], ◌∷◌, ◌++◌, ap, ◌∙◌, subst, arith}
use Rattle.logics.specs.Faults.{node_fault}
use Rattle.logics.specs.Graphs.{edges_of}
use Rattle.logics.specs.Tests.{IsNodeAnswer}
use Rattle.logics.proofs.Checks.{more_tested, all_tested, first_fault}
use Rattle.logics.proofs.checking.test_nodes.Goals as goal

pub returns-in-Faulty : goal.returns-in-Faulty
returns-in-Faulty g c =
    let l = g.L.Logic.logic c.args.logic.now in
    let nodes = c.args.nodes.now in
    let n = c.index-nodes-v.result in
    let told = subst (IsNodeAnswer (node_fault l nodes c.loop-v.v n) (edges_of l nodes n))
    c.in-Faulty.is c.in_ok-edges.ensures in
    first_fault l nodes c.loop-v.graph c.loop-v.v n c.in-Faulty.fault c.loop-v.invariant c.loop-v-test.true
    c.index-nodes-v.is told

pub loop-v-preserved : goal.loop-v-preserved
loop-v-preserved g c =
    let l = g.L.Logic.logic c.args.logic.now in
    let nodes = c.args.nodes.now in
    let n = c.index-nodes-v.result in
    let told = subst (IsNodeAnswer (node_fault l nodes c.loop-v.v n) (edges_of l nodes n))
    c.in-Right.is c.in_ok-edges.ensures in
    let positions = c.in_ok-positions-in-Right in
    more_tested l nodes c.loop-v.graph c.push.new.self c.loop-v.v n positions.positions.items c.in-Right.edges.items
    c.loop-v.invariant c.loop-v-test.true c.index-nodes-v.is told.0 told.1 positions.ensures.value
    positions.ensures.set
    (c.in_ok-push-in-Right.ensures.ok ∙ ap (λ x. c.loop-v.graph ++ x ∷ []) c.new.ensures)

pub returns : goal.returns
returns g c =
    all_tested (g.L.Logic.logic c.args.logic.now) c.args.nodes.now c.loop-v.graph c.loop-v.v c.loop-v.invariant
    (omega (arith, c.loop-v-test.false, c.loop-v.auto.v-end))
