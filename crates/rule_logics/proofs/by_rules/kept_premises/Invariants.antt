use Rattle.std.proofs.Common.{◌≡◌, ◌++◌, map}
use Rattle.rule_logics.specs.Logic.{kept}
use Rattle.rule_logics.proofs.by_rules.kept_premises.Given as goal

abbrev pub invariant-loop-premise : goal.invariant-loop-premise
invariant-loop-premise g l =
    let k = kept (g.T.RuleLogic.rules l.logic) l.judgement in
    l.subgoals.items ++ map k l.premise-iterator.rest.items ≡ map k l.fn.premises.items
