use Rattle.std.proofs.Common.{◌≡◌, true, false}
use Rattle.std.proofs.lemmas.Result.{IfOk-weaker}
use Rattle.general_models.proofs.SomeOf.{not_held, held}
use Rattle.general_models.proofs.refuting.refutes.Goals as goal

pub returns-then-not-holds : goal.returns-then-not-holds
returns-then-not-holds c = record {
  exact = not_held c.in_ok-holds.holds c.if-not-holds.true c.in_ok-holds.ensures.exact;
  refuted = λ t. absurd (let z : false ≡ true = t in cc);
}

pub returns : goal.returns
returns c = record {
  exact = IfOk-weaker c.none_satisfied.result _ _
      (λ q j. held c.in_ok-holds.holds q c.if-not-holds.false c.in_ok-holds.ensures.exact j) c.none_satisfied.ensures;
  refuted = IfOk-weaker c.none_satisfied.result _ _
      (λ q j t entails. j.0 t (entails c.args.stack.now c.args.heap.now
      (c.in_ok-holds.ensures.exact.0 c.if-not-holds.false))) c.none_satisfied.ensures;
}
