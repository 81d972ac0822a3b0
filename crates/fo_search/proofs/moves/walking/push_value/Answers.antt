use Rattle.fo_search.proofs.Beginnings.{none_added}
use Rattle.fo_search.proofs.moves.walking.push_value.Goals as goal

pub returns-in_default : goal.returns-in_default
returns-in_default c = none_added c.args.terms.now.items c.args.values.now c.args.place c.in_default.ensures.lookup.3
