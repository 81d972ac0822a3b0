use Rattle.std.proofs.Common.{◌↔◌, drop}
use Rattle.heap_formula.specs.Meaning.{SatisfiesOne}
use Rattle.counter_model.proofs.first_heaps.satisfied_one.Given as goal

abbrev pub invariant-loop-disjunct : goal.invariant-loop-disjunct
invariant-loop-disjunct l = SatisfiesOne l.defs.list l.stack l.heap (drop l.disjunct-index l.disjuncts)
    ↔ SatisfiesOne l.defs.list l.stack l.heap l.disjuncts
