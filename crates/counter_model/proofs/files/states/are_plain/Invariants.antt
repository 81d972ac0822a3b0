use Rattle.std.proofs.Common.{drop}
use Rattle.heap_formula.specs.Words.{Each}
use Rattle.counter_model.specs.States.{HasPlainCell}
use Rattle.counter_model.proofs.files.states.are_plain.Given as goal

abbrev pub invariant-loop-address : goal.invariant-loop-address
invariant-loop-address l = Each (HasPlainCell l.fn.most l.heap) (drop l.address-index l.addresses)
    → Each (HasPlainCell l.fn.most l.heap) l.addresses
