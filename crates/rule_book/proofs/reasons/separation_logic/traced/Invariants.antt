use Rattle.std.proofs.Common.{◌≡◌, ◌++◌, map}
use Rattle.rule_book.specs.SeparationLogic.{traced}
use Rattle.rule_book.proofs.reasons.separation_logic.traced.Given as goal

abbrev pub invariant-loop-premise : goal.invariant-loop-premise
invariant-loop-premise l = l.subgoals.items ++ map traced l.premise-iterator.rest.items ≡ map traced l.fn.premises.items
