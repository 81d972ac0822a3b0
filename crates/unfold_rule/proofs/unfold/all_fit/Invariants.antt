use Rattle.std.proofs.Common.{◌≡◌, drop}
use Rattle.std.specs.List.{list_all}
use Rattle.unfold_rule.specs.Unfolding.{case_fits}
use Rattle.unfold_rule.proofs.unfold.all_fit.Given as goal

abbrev pub invariant-loop-case : goal.invariant-loop-case
invariant-loop-case l = list_all (case_fits l.most l.judgement) (drop l.case-index l.cases)
    ≡ list_all (case_fits l.most l.judgement) l.cases
