use Rattle.std.proofs.Common.{◌≡◌, drop}
use Rattle.std.specs.List.{list_all}
use Rattle.fo_rules.specs.Making.{atom_fits}
use Rattle.fo_rules.proofs.right_cases.are_small.Given as goal

abbrev pub invariant-loop-atom : goal.invariant-loop-atom
invariant-loop-atom l =
    list_all (atom_fits l.others l.change) (drop l.atom-index l.case) ≡ list_all (atom_fits l.others l.change) l.case
