use Rattle.heap_formula.proofs.Equal.{disjuncts_eq-Decides}
use Rattle.definition_equality.proofs.definitions.are_same_cases.Goals as goal

pub returns : goal.returns
returns c =
    let e = rw (c.heaps.ensures, c.heaps-2.ensures) at c.eq.ensures in
    disjuncts_eq-Decides c.args.a.now c.args.b.now c.eq.result e
