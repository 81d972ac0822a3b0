use Rattle.std.proofs.Common.{◌≡◌, ◌++◌, drop}
use Rattle.heap_formula.specs.Values.{values}
use Rattle.counter_model.proofs.heaps.values.values_of.Given as goal

abbrev pub invariant-loop-term : goal.invariant-loop-term
invariant-loop-term l = l.out.items ++ values l.stack l.locals (drop l.term-index l.terms)
    ≡ values l.stack l.locals l.terms
