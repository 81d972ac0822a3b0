use Rattle.std.proofs.Common.{List, [], ℕ, ◌+◌, ◌++◌, ap, subst, ◌∙◌, arith}
use Rattle.std.proofs.lemmas.Result.{IfOk-weaker}
use Rattle.piecewise_lex.specs.Valid.{IsValid}
use Rattle.file_reader.specs.declared.held.Held.TheVariants as kinds
use Rattle.file_reader.specs.Helds.{parts_of, IsKept, IsStopped}
use Rattle.file_reader.proofs.HeldLaws.{bad-first, bad-text, runs-count, runs-on}
use Rattle.file_reader.proofs.feeding.look.Goals as goal

pub returns-then-not-valid : goal.returns-then-not-valid
returns-then-not-valid c =
    let r = c.args.running in
    let old = parts_of (kinds.Running r) in
    let v = c.valid_front-valid.result in
    let fed = r.place.offset + c.len.result in
    let valid = subst (λ (b : List ℕ). IsValid b v) c.deref.ensures.value c.valid_front-valid.ensures in
    IfOk-weaker c.stopped.result (IsStopped c.first_bad.result fed) (IsKept old [])
    (λ new h. bad-first old tt v valid fed (omega (arith, c.len.ensures))
    new c.first_bad.result c.if-not-valid.true c.first_bad.ensures h) c.stopped.ensures

pub after_nodes-requires : goal.after_nodes-requires
after_nodes-requires c =
    let r = c.args.running in
    let v = c.valid_front-valid.result in
    let valid = subst (λ (b : List ℕ). IsValid b v) c.deref.ensures.value c.valid_front-valid.ensures in
    let rest = c.in_ok-rest-in-Ok.rest in
    omega (
      arith,
      runs-count r v c.in-Ok.ran c.read_text.new.found rest.items valid.utf8 valid.whole c.in-Ok.ensures
          (c.in_ok-rest-in-Ok.ensures ∙ ap (λ (b : List ℕ). b ++ v.tail.now) c.as_bytes.ensures.value),
      c.requires.room,
    )

pub returns-in_ok-rest-in-Ok : goal.returns-in_ok-rest-in-Ok
returns-in_ok-rest-in-Ok c =
    let r = c.args.running in
    let v = c.valid_front-valid.result in
    let valid = subst (λ (b : List ℕ). IsValid b v) c.deref.ensures.value c.valid_front-valid.ensures in
    let rest = c.in_ok-rest-in-Ok.rest in
    runs-on r v c.in-Ok.ran c.read_text.new.found rest.items valid.utf8 valid.whole c.in-Ok.ensures
    (c.in_ok-rest-in-Ok.ensures ∙ ap (λ (b : List ℕ). b ++ v.tail.now) c.as_bytes.ensures.value)
    c.after_nodes.result c.after_nodes.ensures

pub returns-in-Err : goal.returns-in-Err
returns-in-Err c =
    let r = c.args.running in
    let old = parts_of (kinds.Running r) in
    let v = c.valid_front-valid.result in
    let fed = r.place.offset + c.len.result in
    let valid = subst (λ (b : List ℕ). IsValid b v) c.deref.ensures.value c.valid_front-valid.ensures in
    IfOk-weaker c.stopped-in-Err.result (IsStopped c.in-Err.stop fed) (IsKept old [])
    (λ new h. bad-text old tt v valid fed (omega (arith, c.len.ensures))
    new c.in-Err.stop c.if-not-valid.false c.in-Err.ensures h) c.stopped-in-Err.ensures
