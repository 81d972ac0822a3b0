use Rattle.std.proofs.Common.{◌≡◌, ◌++◌, map}
use Rattle.fo_formula.specs.declared.nodes.FoReason.TheVariants.{Rule}
use Rattle.fo_search.proofs.offering.reasons_by.Given as goal

abbrev pub invariant-loop-rule : goal.invariant-loop-rule
invariant-loop-rule l = l.reasons.items ++ map Rule l.rule-iterator.rest.items ≡ map Rule l.fn.rules.items
