use Rattle.std.proofs.Common.{◌≡◌, drop, not, ◌||◌}
use Rattle.std.specs.List.{list_all}
use Rattle.back_links.specs.Listing.{stands_in_spatial}
use Rattle.back_links.specs.Prospects.{has_value}
use Rattle.back_links.proofs.prospects.have_values.Given as goal

abbrev pub invariant-loop-n : goal.invariant-loop-n
invariant-loop-n l = list_all (λ n. not (stands_in_spatial n l.x)
    || has_value l.search.bud.now l.search.companion.now l.search.variables l.search.values.now l.places n)
    (drop l.n-index l.search.sources.now) ≡ list_all (λ n. not (stands_in_spatial n l.x)
    || has_value l.search.bud.now l.search.companion.now l.search.variables l.search.values.now l.places n)
    l.search.sources.now
