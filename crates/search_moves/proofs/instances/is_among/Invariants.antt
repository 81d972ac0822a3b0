use Rattle.std.proofs.Common.{◌≡◌, drop}
use Rattle.std.specs.List.{list_any}
use Rattle.search_moves.specs.Instances.{is_rule_by}
use Rattle.search_moves.proofs.instances.is_among.Given as goal

abbrev pub invariant-loop-rule : goal.invariant-loop-rule
invariant-loop-rule l = list_any (is_rule_by l.instance) (drop l.rule-index l.rules)
    ≡ list_any (is_rule_by l.instance) l.rules
