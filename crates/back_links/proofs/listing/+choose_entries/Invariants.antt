use Rattle.std.proofs.Common.{◌≡◌, ◌≤◌, ◌-◌, ◌++◌, ◌∷◌, [], take, drop, length}
use Rattle.std.specs.List.{flat_map, range_with_len}
use Rattle.rule_table.specs.Answer.{disjuncts}
use Rattle.back_links.specs.Branches.{by_entries}
use Rattle.back_links.specs.Listing.{number_choices}
use Rattle.back_links.proofs.listing.+choose_entries.Given as goal

abbrev pub invariant-loop-m : goal.invariant-loop-m
invariant-loop-m l = (take l.search.most (l.found.items ++ flat_map
    (λ m. by_entries l.search.bud.now l.search.companion.now l.search.target l.search.variables l.places l.subst
    (l.made ++ m ∷ []) (number_choices (disjuncts l.search.bud.now)
    (drop (length (l.made ++ m ∷ [])) (disjuncts l.search.companion.now))))
    (range_with_len l.m (length (disjuncts l.search.bud.now) - l.m)))
    ≡ take l.search.most (l.initial.found.items ++ flat_map (λ m.
    by_entries l.search.bud.now l.search.companion.now l.search.target l.search.variables l.places l.subst
    (l.made ++ m ∷ []) (number_choices (disjuncts l.search.bud.now)
    (drop (length (l.made ++ m ∷ [])) (disjuncts l.search.companion.now))))
    (range_with_len 0 (length (disjuncts l.search.bud.now))))) × (length l.found.items ≤ l.search.most)

abbrev pub decreases-choose_entries : goal.decreases-choose_entries
decreases-choose_entries l = length (disjuncts l.search.now.companion.now) - length l.made.now
