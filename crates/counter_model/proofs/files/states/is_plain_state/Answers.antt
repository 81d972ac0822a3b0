use Rattle.std.proofs.Common.{arith, refl}
use Rattle.std.proofs.lemmas.Bool.Decides.{nat_tests}
use Rattle.counter_model.proofs.PlainCells.{plain_state}
use Rattle.counter_model.proofs.files.states.is_plain_state.Goals as goal

pub returns : goal.returns
returns c t =
    plain_state c.args.most c.args.stack.now c.args.heap.now c.as_slice-values.result.now
    c.in_ok-addresses.addresses.items c.deref.result.now
    c.as_slice-values.ensures (grind (arith, nat_tests, c.if-values-gt-MOST_VALUES.false))
    (c.if-not-are_short.ensures refl)
    c.in_ok-addresses.ensures.value (grind (arith, nat_tests, c.if-len-most.false)) c.deref.ensures.value
    (c.are_plain.ensures t)
