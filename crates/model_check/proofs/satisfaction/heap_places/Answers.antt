use Rattle.std.proofs.Common.{◌∙◌}
use Rattle.model_check.proofs.PlaceLists.{covers_result}
use Rattle.model_check.proofs.satisfaction.heap_places.Goals as goal

pub returns-clause-covers : goal.returns-clause-covers
returns-clause-covers c = covers_result (λ p. p.keys) c.args.cells.now c.deref.result.now
    (c.deref.ensures.value ∙ c.in_ok-addresses.ensures.value) c.places_of.result c.places_of.ensures
