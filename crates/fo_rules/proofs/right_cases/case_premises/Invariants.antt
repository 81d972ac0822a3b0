use Rattle.std.proofs.Common.{◌≡◌, ◌++◌, map, drop}
use Rattle.fo_rules.specs.Making.{right_by}
use Rattle.fo_rules.proofs.right_cases.case_premises.Given as goal

abbrev pub invariant-loop-atom : goal.invariant-loop-atom
invariant-loop-atom l = l.premises.items ++ map (right_by l.sequent l.j l.change) (drop l.atom-index l.case)
    ≡ map (right_by l.sequent l.j l.change) l.case
