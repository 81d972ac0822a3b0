use Rattle.std.proofs.Common.{arith, ◌++◌}
use Rattle.heap_formula.specs.declared.terms.Term.TheVariants.{Nil}
use Rattle.heap_formula.specs.declared.atoms.Pure.TheVariants.{Eq}
use Rattle.heap_formula.specs.Meaning.{PureHolds}
use Rattle.counter_model.proofs.Loops.{one_fails}
use Rattle.counter_model.proofs.heaps.values.may_all_hold.Goals as goal

pub returns-then-not-may_hold : goal.returns-then-not-may_hold
returns-then-not-may_hold c = λ behind a.
    absurd (one_fails (PureHolds c.args.stack.now (c.args.locals.now ++ behind)) c.args.atoms.now c.loop-atom.atom-index
    (Eq Nil Nil) c.may_hold.result (omega arith) c.if-not-may_hold.true (c.may_hold.ensures behind)
    (c.loop-atom.invariant behind a))
