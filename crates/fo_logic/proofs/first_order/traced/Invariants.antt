use Rattle.std.proofs.Common.{◌≡◌, ◌++◌, map}
use Rattle.fo_logic.specs.FirstOrder.{traced}
use Rattle.fo_logic.proofs.first_order.traced.Given as goal

abbrev pub invariant-loop-premise : goal.invariant-loop-premise
invariant-loop-premise l = l.subgoals.items ++ map traced l.premise-iterator.rest.items ≡ map traced l.fn.premises.items
