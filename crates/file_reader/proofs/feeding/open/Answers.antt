use Rattle.std.proofs.Common.{List, [], ℕ, subst, arith}
use Rattle.std.proofs.lemmas.Result.{IfOk-weaker}
use Rattle.piecewise_lex.specs.Valid.{IsValid}
use Rattle.file_reader.specs.declared.held.Held.TheVariants as kinds
use Rattle.file_reader.specs.Helds.{parts_of, IsKept, IsStopped}
use Rattle.file_reader.proofs.HeldLaws.{bad-first, bad-text}
use Rattle.file_reader.proofs.feeding.open.Goals as goal

pub returns-then-not-valid : goal.returns-then-not-valid
returns-then-not-valid c =
    let old = parts_of (kinds.Opening c.args.opening) in
    let v = c.valid_front-valid.result in
    let fed = c.len-fed.result in
    let valid = subst (λ (b : List ℕ). IsValid b v) c.deref.ensures.value c.valid_front-valid.ensures in
    IfOk-weaker c.stopped.result (IsStopped c.first_bad.result fed) (IsKept old [])
    (λ new h. bad-first old tt v valid fed (omega (arith, c.len-fed.ensures))
    new c.first_bad.result c.if-not-valid.true c.first_bad.ensures h) c.stopped.ensures

pub returns-in-Err : goal.returns-in-Err
returns-in-Err c =
    let old = parts_of (kinds.Opening c.args.opening) in
    let v = c.valid_front-valid.result in
    let fed = c.len-fed.result in
    let valid = subst (λ (b : List ℕ). IsValid b v) c.deref.ensures.value c.valid_front-valid.ensures in
    IfOk-weaker c.stopped-in-Err.result (IsStopped c.in-Err.stop fed) (IsKept old [])
    (λ new h. bad-text old tt v valid fed (omega (arith, c.len-fed.ensures))
    new c.in-Err.stop c.if-not-valid.false c.in-Err.ensures h) c.stopped-in-Err.ensures
