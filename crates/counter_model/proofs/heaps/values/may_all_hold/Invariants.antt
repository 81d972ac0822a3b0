use Rattle.std.proofs.Common.{ℕ, List, ◌++◌, drop}
use Rattle.heap_formula.specs.Words.{Each}
use Rattle.heap_formula.specs.Meaning.{PureHolds}
use Rattle.counter_model.proofs.heaps.values.may_all_hold.Given as goal

abbrev pub invariant-loop-atom : goal.invariant-loop-atom
invariant-loop-atom l =
    (behind : List ℕ) → Each (PureHolds l.stack (l.locals ++ behind)) l.atoms
    → Each (PureHolds l.stack (l.locals ++ behind)) (drop l.atom-index l.atoms)
