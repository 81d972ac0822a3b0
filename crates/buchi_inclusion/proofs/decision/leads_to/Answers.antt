-- A walk is a way.
use Rattle.std.proofs.Common.{Vec, Global}
use Rattle.trace_pairs.specs.declared.lasso.Step.{Step}
use Rattle.buchi_inclusion.specs.Table.{states_of}
use Rattle.buchi_inclusion.specs.Decision.{IsWalk, IsNoWay}
use Rattle.buchi_inclusion.proofs.BadMoves.{way_of_walk}
use Rattle.buchi_inclusion.proofs.Exploring.{some_of}
use Rattle.buchi_inclusion.proofs.decision.leads_to.Goals as goal

pub returns-clause-way : goal.returns-clause-way
returns-clause-way c yes' =
    way_of_walk c.args.class.now.graph.now (states_of c.args.class.now.table.now.states)
    c.args.class.now.least c.args.start c.args.to c.in-Some._way.items
    (some_of (IsNoWay c.args.class.now.graph.now (states_of c.args.class.now.table.now.states)
    c.args.class.now.least c.args.start c.args.to) (λ (v : Vec Step Global). IsWalk c.args.class.now.graph.now
    (states_of c.args.class.now.table.now.states) c.args.class.now.least c.args.start c.args.to v.items)
    c.in_ok-found.found c.in-Some._way c.in-Some.is c.in_ok-found.ensures)
