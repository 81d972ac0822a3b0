use Rattle.std.proofs.Common.{sym, subst}
use Rattle.std.proofs.lemmas.Result.{IfOk-weaker}
use Rattle.trace_pairs.specs.Graph.{IsPositionSet}
use Rattle.rule_logics.specs.Lists.{positions_set}
use Rattle.rule_logics.proofs.by_rules.ByRulesLogic.positions.Goals as goal

pub returns-clause-set : goal.returns-clause-set
returns-clause-set g c =
    IfOk-weaker c.positions_of.result _ _ (λ v is. subst IsPositionSet (sym is)
    (positions_set ((g.T.RuleLogic.rules c.args.self.now.logic).follows c.args.judgement.now)))
    c.positions_of.ensures
