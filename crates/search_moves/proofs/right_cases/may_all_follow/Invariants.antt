use Rattle.std.proofs.Common.{◌≡◌, drop, map}
use Rattle.std.specs.List.{list_all}
use Rattle.heap_formula.specs.Substitution.{in_pure}
use Rattle.rule_table.specs.Table.{right_term}
use Rattle.search_moves.specs.Settings.{theory_of}
use Rattle.search_moves.specs.Entailments.{may_follow}
use Rattle.search_moves.proofs.right_cases.may_all_follow.Given as goal

abbrev pub invariant-loop-atom : goal.invariant-loop-atom
invariant-loop-atom l = list_all (may_follow (theory_of l.at) l.at.judgement.now l.left)
    (map (in_pure (right_term l.args 0)) (drop l.atom-index l.case))
    ≡ list_all (may_follow (theory_of l.at) l.at.judgement.now l.left) (map (in_pure (right_term l.args 0)) l.case)
