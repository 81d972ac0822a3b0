use Rattle.std.proofs.Common.{◌≡◌, ◌≤◌, ◌++◌, ◌∷◌, [], take, drop, length, get_or}
use Rattle.std.specs.List.{flat_map}
use Rattle.back_links.specs.Branches.{by_pairs}
use Rattle.back_links.specs.Listing.{value_choices}
use Rattle.back_links.proofs.listing.+choose_values.Given as goal

abbrev pub invariant-loop-v : goal.invariant-loop-v
invariant-loop-v l =
    (take l.search.most
    (l.found.items
    ++ flat_map (λ v. by_pairs l.search.bud.now l.search.companion.now l.search.target l.search.variables l.places
    (l.initial.made.items ++ (get_or l.rest 0 0, v) ∷ []) (value_choices l.search.values.now (drop 1 l.rest)))
    (drop l.v-index l.search.values.now)) ≡ take l.search.most
    (l.initial.found.items
    ++ flat_map (λ v. by_pairs l.search.bud.now l.search.companion.now l.search.target l.search.variables l.places
    (l.initial.made.items ++ (get_or l.rest 0 0, v) ∷ []) (value_choices l.search.values.now (drop 1 l.rest)))
    (drop 0 l.search.values.now)))
    × (length l.found.items ≤ l.search.most)
    × (l.made.items ≡ l.initial.made.items)

abbrev pub decreases-choose_values : goal.decreases-choose_values
decreases-choose_values l = length l.rest.now
