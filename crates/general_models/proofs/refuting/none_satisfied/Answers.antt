use Rattle.std.proofs.Common.{arith}
use Rattle.heap_formula.specs.Meaning.{Satisfies}
use Rattle.general_models.proofs.SomeOf.{found, passed, none, excluded, yes, no}
use Rattle.general_models.proofs.refuting.none_satisfied.Goals as goal

pub returns-then-holds : goal.returns-then-holds
returns-then-holds c =
    no (λ n. n (found (Satisfies c.args.defs.now.list c.args.stack.now c.args.heap.now)
    c.args.asks.now c.loop-ask.ask-index c.loop-ask.invariant c.ask-item.result c.loop-ask-test.true c.ask-item.is
    (c.in_ok-holds.ensures.exact.0 c.if-holds.true)))

pub loop-ask-preserved : goal.loop-ask-preserved
loop-ask-preserved c =
    passed (Satisfies c.args.defs.now.list c.args.stack.now c.args.heap.now)
    c.args.asks.now c.loop-ask.ask-index c.loop-ask.invariant c.ask-item.result c.loop-ask-test.true c.ask-item.is
    (excluded c.in_ok-holds.holds c.if-holds.false c.in_ok-holds.ensures.exact)

pub returns : goal.returns
returns c =
    yes (none (Satisfies c.args.defs.now.list c.args.stack.now c.args.heap.now)
    c.args.asks.now c.loop-ask.ask-index c.loop-ask.invariant (omega arith))
