use Rattle.std.proofs.Common.{◌≡◌, drop}
use Rattle.std.specs.List.{list_all}
use Rattle.fo_search.specs.Choosing.{may_stand}
use Rattle.fo_search.proofs.moves.settling.may_all_stand.Given as goal

abbrev pub invariant-loop-atom : goal.invariant-loop-atom
invariant-loop-atom l = list_all (may_stand l.change l.others) (drop l.atom-index l.atoms)
    ≡ list_all (may_stand l.change l.others) l.atoms
