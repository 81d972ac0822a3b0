use Rattle.std.proofs.Common.{◌≡◌, drop}
use Rattle.std.specs.List.{list_all}
use Rattle.fo_rules.specs.Making.{case_fits}
use Rattle.fo_rules.proofs.unfolding.are_small.Given as goal

abbrev pub invariant-loop-case : goal.invariant-loop-case
invariant-loop-case l =
    list_all (case_fits l.others l.change) (drop l.case-index l.cases) ≡ list_all (case_fits l.others l.change) l.cases
