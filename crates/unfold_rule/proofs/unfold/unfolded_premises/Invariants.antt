use Rattle.std.proofs.Common.{◌≡◌, ◌++◌, drop, map, true}
use Rattle.std.specs.List.{list_all}
use Rattle.rule_table.specs.Changes.{changed}
use Rattle.unfold_rule.specs.Unfolding.{unfolded_by, case_fits}
use Rattle.unfold_rule.proofs.unfold.unfolded_premises.Given as goal

abbrev pub invariant-loop-case : goal.invariant-loop-case
invariant-loop-case l =
    (l.premises.items ++ map (unfolded_by l.judgement l.k (changed l.change)) (drop l.case-index l.cases)
    ≡ map (unfolded_by l.judgement l.k (changed l.change)) l.cases)
    × (list_all (case_fits l.most l.judgement) (drop l.case-index l.cases) ≡ true)
