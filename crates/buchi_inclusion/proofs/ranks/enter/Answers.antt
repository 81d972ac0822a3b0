-- The state leaves those that are not found, and comes on the way.
use Rattle.std.proofs.Common.{arith}
use Rattle.std.proofs.lemmas.Option.{slice_get_within}
use Rattle.buchi_inclusion.proofs.Work.{entered}
use Rattle.buchi_inclusion.proofs.ranks.enter.Goals as goal

pub returns : goal.returns
returns c rows =
    entered rows c.args.search.now.numbers.items c.put.new.numbers.items c.args.search.now.way.items
    c.push-2.new.self.items c.args.state c.saturating_add-search.result
    c.requires.new (omega (arith, c.saturating_add-search.ensures))
    (c.put.ensures (omega (arith, slice_get_within c.args.search.now.numbers.items c.args.state 0 c.requires.new)))
    c.in_ok-push-2.ensures.items
