use Rattle.std.proofs.lemmas.Result.{IfOk-weaker}
use Rattle.general_models.proofs.derivations.refuting.refutes_by_derivation.Goals as goal

pub returns-clause-refuted : goal.returns-clause-refuted
returns-clause-refuted c =
    IfOk-weaker c.none_satisfied.result _ _ (λ q j t entails.
    j.0 t (entails c.args.stack.now c.args.heap.now (c.in_ok-holds.ensures.satisfied c.if-not-holds.false)))
    c.none_satisfied.ensures
