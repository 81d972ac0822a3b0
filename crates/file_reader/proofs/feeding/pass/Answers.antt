use Rattle.std.proofs.Common.{List, [], ℕ, ◌+◌, ◌++◌, ap, subst, ◌∙◌, arith}
use Rattle.piecewise_lex.specs.Valid.{IsValid}
use Rattle.file_reader.specs.declared.held.Held.TheVariants as kinds
use Rattle.file_reader.specs.Helds.{parts_of, IsKept, IsStopped}
use Rattle.file_reader.proofs.HeldLaws.{bad-first, bad-text, faulty-passes}
use Rattle.file_reader.proofs.feeding.pass.Goals as goal
use Rattle.std.proofs.lemmas.Result.{IfOk-weaker}

pub returns-then-not-valid : goal.returns-then-not-valid
returns-then-not-valid c =
    let f = c.args.faulty in
    let old = parts_of (kinds.Faulty f) in
    let v = c.valid_front-valid.result in
    let fed = f.place.offset + c.len.result in
    let valid = subst (λ (b : List ℕ). IsValid b v) c.deref.ensures.value c.valid_front-valid.ensures in
    IfOk-weaker c.stopped.result (IsStopped c.first_bad.result fed) (IsKept old [])
    (λ new h. bad-first old tt v valid fed (omega (arith, c.len.ensures))
    new c.first_bad.result c.if-not-valid.true c.first_bad.ensures h) c.stopped.ensures

pub returns-in-Ok : goal.returns-in-Ok
returns-in-Ok c =
    let v = c.valid_front-valid.result in
    let valid = subst (λ (b : List ℕ). IsValid b v) c.deref.ensures.value c.valid_front-valid.ensures in
    faulty-passes c.args.faulty v c.in-Ok.passed c.in_ok-rest-in-Ok.rest _ valid c.in-Ok.ensures
    (c.in_ok-rest-in-Ok.ensures ∙ ap (λ (b : List ℕ). b ++ v.tail.now) c.as_bytes.ensures.value)

pub returns : goal.returns
returns c =
    let f = c.args.faulty in
    let old = parts_of (kinds.Faulty f) in
    let v = c.valid_front-valid.result in
    let fed = f.place.offset + c.len.result in
    let valid = subst (λ (b : List ℕ). IsValid b v) c.deref.ensures.value c.valid_front-valid.ensures in
    IfOk-weaker c.stopped-in-Err.result (IsStopped c.in-Err.stop fed) (IsKept old [])
    (λ new h. bad-text old tt v valid fed (omega (arith, c.len.ensures))
    new c.in-Err.stop c.if-not-valid.false c.in-Err.ensures h) c.stopped-in-Err.ensures
