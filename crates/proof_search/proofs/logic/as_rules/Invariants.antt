use Rattle.std.proofs.Common.{◌≡◌, ◌++◌, map}
use Rattle.heap_formula.specs.declared.proof_rules.Reason.TheVariants.{Step as by_rule}
use Rattle.proof_search.proofs.logic.as_rules.Given as goal

abbrev pub invariant-loop-rule : goal.invariant-loop-rule
invariant-loop-rule l = l.reasons.items ++ map by_rule l.rule-iterator.rest.items ≡ map by_rule l.fn.rules.items
