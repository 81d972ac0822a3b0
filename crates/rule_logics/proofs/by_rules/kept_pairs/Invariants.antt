use Rattle.std.proofs.Common.{◌≡◌, take}
use Rattle.rule_logics.specs.Logic.{kept_pairs}
use Rattle.rule_logics.proofs.by_rules.kept_pairs.Given as goal

abbrev pub invariant-loop-pair : goal.invariant-loop-pair
invariant-loop-pair g l = l.kept.items ≡ kept_pairs (g.T.RuleLogic.rules l.logic) l.judgement l.premise
    (take l.pair-index l.pairs)
