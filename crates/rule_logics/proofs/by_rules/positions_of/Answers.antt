use Rattle.std.proofs.Common.{arith}
use Rattle.rule_logics.proofs.Loops.{next_position, no_position}
use Rattle.rule_logics.proofs.by_rules.positions_of.Goals as goal

pub loop-position-preserved : goal.loop-position-preserved
loop-position-preserved g c =
    next_position ((g.T.RuleLogic.rules c.args.logic.now).follows c.args.judgement.now)
    c.loop-position.position c.is_followed-follows.result c.loop-position.positions.items
    c.push_if.new.positions.items _ (omega arith)
    c.is_followed-follows.ensures c.in_ok-push_if.ensures c.loop-position.invariant

pub returns : goal.returns
returns g c = no_position ((g.T.RuleLogic.rules c.args.logic.now).follows c.args.judgement.now)
    c.loop-position.position c.loop-position.positions.items _ (omega arith) c.loop-position.invariant
