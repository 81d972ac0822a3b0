use Rattle.std.proofs.Common.{◌≡◌, ◌++◌, map}
use Rattle.heap_formula.specs.declared.proof_rules.Reason.TheVariants.{Back as by_link}
use Rattle.proof_search.proofs.logic.as_links.Given as goal

abbrev pub invariant-loop-link : goal.invariant-loop-link
invariant-loop-link l = l.reasons.items ++ map by_link l.link-iterator.rest.items ≡ map by_link l.fn.links.items
