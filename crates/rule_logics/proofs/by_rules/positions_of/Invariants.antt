use Rattle.std.proofs.Common.{◌≡◌, ◌-◌, ◌++◌}
use Rattle.rule_logics.specs.Logic.{positions_from}
use Rattle.rule_logics.proofs.by_rules.positions_of.Given as goal

abbrev pub invariant-loop-position : goal.invariant-loop-position
invariant-loop-position g l =
    let test = (g.T.RuleLogic.rules l.logic).follows l.judgement in
    l.positions.items ++ positions_from test (32 - l.position) l.position ≡ positions_from test 32 0
