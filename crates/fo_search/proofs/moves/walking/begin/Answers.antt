use Rattle.fo_search.proofs.Beginnings.{begins_all}
use Rattle.fo_search.proofs.moves.walking.begin.Goals as goal

pub returns : goal.returns
returns c test values = begins_all test values c.args.count c.new.result.items c.new.ensures.items
