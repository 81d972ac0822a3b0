use Rattle.model_check.proofs.PlaceLists.{place_found, place_missing}
use Rattle.model_check.proofs.grounding.place_of.Goals as goal

pub returns-in-Some : goal.returns-in-Some
returns-in-Some c = place_found c.args.places.now.keys c.args.address c.in-Some.i c.in-Some.ensures.index

pub returns-in-None : goal.returns-in-None
returns-in-None c = place_missing c.args.places.now.keys c.args.address c.len.result c.len.ensures.len
    c.in-None.ensures.index
