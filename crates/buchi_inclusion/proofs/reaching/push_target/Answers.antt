-- The way to the state, and the move.
use Rattle.buchi_inclusion.specs.Table.{states_of}
use Rattle.buchi_inclusion.proofs.BadMoves.{way_on, led_more}
use Rattle.std.proofs.Common.{sym, ◌∙◌}
use Rattle.buchi_inclusion.proofs.reaching.push_target.Goals as goal

pub returns-clause-led : goal.returns-clause-led
returns-clause-led c =
    led_more c.args.class.now.graph.now (states_of c.args.class.now.table.now.states)
    c.args.class.now.least c.args.start c.args.item.target c.args.stack.now.items c.push.new.self.items
    c.requires.stack c.in_ok-push.ensures.items
    (way_on c.args.class.now.graph.now (states_of c.args.class.now.table.now.states)
    c.args.class.now.least c.args.start c.args.place c.args.edge c.args.item c.requires.way c.requires.item
    (sym c.earlier.ensures ∙ c.if-earlier.false))
