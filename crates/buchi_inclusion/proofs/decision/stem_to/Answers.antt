-- Each state is reached from the first.
use Rattle.std.proofs.Common.{Vec, Global}
use Rattle.trace_pairs.specs.declared.lasso.Step.{Step}
use Rattle.buchi_core.specs.declared.event.Event.TheVariants.{Dies}
use Rattle.buchi_inclusion.specs.Table.{states_of}
use Rattle.buchi_inclusion.specs.Decision.{IsWalk, IsNoWay}
use Rattle.buchi_inclusion.proofs.Exploring.{none_of}
use Rattle.buchi_inclusion.proofs.Deciding.{stem_is}
use Rattle.buchi_inclusion.proofs.decision.stem_to.Goals as goal

pub unreachable-requires : goal.unreachable-requires
unreachable-requires c =
    stem_is c.args.graph.now (states_of c.args.table.now.states)
    c.args.table.now.rows.items c.requires.table c.requires.graph c.args.place c.requires.place
    (none_of (IsNoWay c.args.graph.now (states_of c.args.table.now.states) (Dies 0) 0 c.args.place)
    (λ (v : Vec Step Global). IsWalk c.args.graph.now (states_of c.args.table.now.states) (Dies 0)
    0 c.args.place v.items) c.in_ok-found.found c.in_default.is c.in_ok-found.ensures)
