use Rattle.std.proofs.Common.{◌≡◌, drop}
use Rattle.std.specs.List.{list_any}
use Rattle.fo_formula.specs.Tests.{same_atom}
use Rattle.fo_search.proofs.moves.settling.has_atom.Given as goal

abbrev pub invariant-loop-other : goal.invariant-loop-other
invariant-loop-other l = list_any (same_atom l.atom) (drop l.other-index l.atoms) ≡ list_any (same_atom l.atom) l.atoms
