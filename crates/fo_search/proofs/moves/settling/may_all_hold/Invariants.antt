use Rattle.std.proofs.Common.{◌≡◌, drop}
use Rattle.std.specs.List.{list_all}
use Rattle.fo_search.specs.Choosing.{may_hold}
use Rattle.fo_search.proofs.moves.settling.may_all_hold.Given as goal

abbrev pub invariant-loop-atom : goal.invariant-loop-atom
invariant-loop-atom l = list_all (may_hold l.change l.left) (drop l.atom-index l.case)
    ≡ list_all (may_hold l.change l.left) l.case
