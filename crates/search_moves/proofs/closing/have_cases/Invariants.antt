use Rattle.std.proofs.Common.{◌≡◌, drop}
use Rattle.std.specs.List.{list_all}
use Rattle.search_moves.specs.Closing.{has_case}
use Rattle.search_moves.proofs.closing.have_cases.Given as goal

abbrev pub invariant-loop-atom : goal.invariant-loop-atom
invariant-loop-atom l = list_all (has_case l.defs.list) (drop l.atom-index l.atoms)
    ≡ list_all (has_case l.defs.list) l.atoms
