use Rattle.std.proofs.Common.{subst}
use Rattle.logics.specs.Tests.{IsTested}
use Rattle.logics.proofs.Checks.{tested_graph, accepted}
use Rattle.logics.proofs.checking.check_proof.Goals as goal

pub included-requires : goal.included-requires
included-requires g c =
    let logic = c.args.logic.now in
    let l = g.L.Logic.logic logic in
    let told = subst (IsTested l c.args.nodes.now) c.in-Right.is c.in_ok-graph.ensures in
    record {
      graph = tested_graph l c.args.nodes.now (g.L.Logic.occurs logic) (g.L.Logic.allows logic)
          (g.met.L.Logic.in_order logic) c.requires.stand c.requires.some told.1 told.2 c.in-Right.graph told.0;
    }

pub returns-in-Included : goal.returns-in-Included
returns-in-Included g c =
    let logic = c.args.logic.now in
    let l = g.L.Logic.logic logic in
    let told = subst (IsTested l c.args.nodes.now) c.in-Right.is c.in_ok-graph.ensures in
    accepted l c.args.nodes.now (g.L.Logic.occurs logic) (g.L.Logic.allows logic) (g.met.L.Logic.in_order logic)
    c.requires.stand c.requires.some told.1 told.2 (g.L.Logic.holds logic) (g.met.L.Logic.sound logic)
    c.in-Right.graph told.0 c.in_ok-included.field-0 c.in_ok-included.ensures c.in-Included.is
