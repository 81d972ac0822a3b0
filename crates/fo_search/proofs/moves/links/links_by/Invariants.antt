use Rattle.std.proofs.Common.{◌≡◌, ◌++◌, drop, map}
use Rattle.fo_search.specs.Choosing.{link_with}
use Rattle.fo_search.proofs.moves.links.links_by.Given as goal

abbrev pub invariant-loop-terms : goal.invariant-loop-terms
invariant-loop-terms l = l.links.items ++ map (link_with l.goal) (drop l.terms-index l.choices)
    ≡ map (link_with l.goal) l.choices
