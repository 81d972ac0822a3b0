use Rattle.std.proofs.Common.{get_or, refl}
use Rattle.fo_search.proofs.Beginnings.{chosen_on, chosen_all}
use Rattle.fo_search.proofs.moves.walking.chosen.Goals as goal

pub loop-place-preserved : goal.loop-place-preserved
loop-place-preserved c =
    let place = get_or c.args.places.now c.loop-place.place-index 0 in
    chosen_on c.args.values.now c.args.places.now c.loop-place.place-index 0 place c.loop-place.terms.items
    c.push_value.new.terms.items _ c.loop-place-test.true refl c.in_ok-push_value.ensures c.loop-place.invariant

pub returns : goal.returns
returns c = chosen_all c.args.values.now c.args.places.now c.loop-place.place-index c.loop-place.terms.items
    c.loop-place-test.false c.loop-place.invariant
