use Rattle.std.proofs.Common.{◌≡◌, ◌≤◌, ◌-◌, ◌++◌, ◌∷◌, [], take, drop, length}
use Rattle.std.specs.List.{flat_map, range_with_len}
use Rattle.heap_formula.specs.Judgements.{antecedent}
use Rattle.back_links.specs.Branches.{by_places}
use Rattle.back_links.specs.Listing.{number_choices}
use Rattle.back_links.proofs.listing.+choose_places.Given as goal

abbrev pub invariant-loop-m : goal.invariant-loop-m
invariant-loop-m l =
    (take l.search.most
    (l.found.items
    ++ flat_map
    (λ m. by_places l.search.bud.now l.search.companion.now l.search.target l.search.variables l.search.values.now
    l.search.sources.now (l.initial.made.items ++ m ∷ [])
    (number_choices (antecedent l.search.bud.now).spatial (drop 1 l.rest)))
    (range_with_len l.m (length ((antecedent l.search.bud.now).spatial) - l.m)))
    ≡ take l.search.most (l.initial.found.items ++ flat_map
    (λ m. by_places l.search.bud.now l.search.companion.now l.search.target l.search.variables l.search.values.now
    l.search.sources.now (l.initial.made.items ++ m ∷ [])
    (number_choices (antecedent l.search.bud.now).spatial (drop 1 l.rest)))
    (range_with_len 0 (length ((antecedent l.search.bud.now).spatial)))))
    × (length l.found.items ≤ l.search.most)
    × (l.made.items ≡ l.initial.made.items)

abbrev pub decreases-choose_places : goal.decreases-choose_places
decreases-choose_places l = length l.rest.now
