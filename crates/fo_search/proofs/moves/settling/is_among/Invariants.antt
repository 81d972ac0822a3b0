use Rattle.std.proofs.Common.{◌≡◌, drop}
use Rattle.std.specs.List.{list_any}
use Rattle.fo_formula.specs.declared.atoms.FoAtom.{FoAtom}
use Rattle.fo_formula.specs.Tests.{same_atom}
use Rattle.fo_search.proofs.moves.settling.is_among.Given as goal

abbrev pub invariant-loop-other : goal.invariant-loop-other
invariant-loop-other l = list_any (λ (y : FoAtom). same_atom y l.atom) (drop l.other-index l.atoms)
    ≡ list_any (λ (y : FoAtom). same_atom y l.atom) l.atoms
