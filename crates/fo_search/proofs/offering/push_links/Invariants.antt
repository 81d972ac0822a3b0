use Rattle.std.proofs.Common.{◌≡◌, ◌++◌, map}
use Rattle.fo_formula.specs.declared.nodes.FoReason.TheVariants.{Link}
use Rattle.fo_search.proofs.offering.push_links.Given as goal

abbrev pub invariant-loop-link : goal.invariant-loop-link
invariant-loop-link l = l.reasons.items ++ map Link l.link-iterator.rest.items ≡ l.initial.reasons.items
    ++ map Link l.fn.links.items
