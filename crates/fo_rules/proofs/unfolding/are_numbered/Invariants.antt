use Rattle.std.proofs.Common.{◌≡◌, drop}
use Rattle.std.specs.List.{list_all}
use Rattle.fo_formula.specs.Table.{is_numbered}
use Rattle.fo_rules.proofs.unfolding.are_numbered.Given as goal

abbrev pub invariant-loop-case : goal.invariant-loop-case
invariant-loop-case l = list_all (is_numbered l.number) (drop l.case-index l.cases)
    ≡ list_all (is_numbered l.number) l.cases
