use Rattle.std.proofs.Common.{◌↔◌, drop}
use Rattle.heap_formula.specs.Words.{Each}
use Rattle.heap_formula.specs.Meaning.{PureHolds}
use Rattle.general_models.proofs.derivations.terms.pures_hold.Given as goal

abbrev pub invariant-loop-atom : goal.invariant-loop-atom
invariant-loop-atom l = Each (PureHolds l.stack l.locals) l.atoms
    ↔ Each (PureHolds l.stack l.locals) (drop l.atom-index l.atoms)
