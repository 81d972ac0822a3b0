use Rattle.std.proofs.Common.{◌≡◌, drop}
use Rattle.std.specs.List.{list_any}
use Rattle.fo_search.specs.Links.{stands_in_atom}
use Rattle.fo_search.proofs.moves.variables.stands_in_atoms.Given as goal

abbrev pub invariant-loop-atom : goal.invariant-loop-atom
invariant-loop-atom l = list_any (stands_in_atom l.n) (drop l.atom-index l.atoms)
    ≡ list_any (stands_in_atom l.n) l.atoms
