use Rattle.std.proofs.Common.{List, [], ◌++◌, ◌≡◌, ℕ, sym, subst, ◌∙◌, eqb-true}
use Rattle.cyc_lex.specs.Cutting.{cut_text}
use Rattle.piecewise_lex.specs.Valid.{IsValid}
use Rattle.file_reader.proofs.EndLaws.{answer-fault, answer-stop, first-stops, text-stops, rest-ends, rest-stops}
use Rattle.file_reader.proofs.finishing.finish_faulty.Goals as goal
use Rattle.std.proofs.lemmas.List.{nil_from_length}

pub returns-then-not-is_empty : goal.returns-then-not-is_empty
returns-then-not-is_empty c =
    let f = c.args.faulty.now in
    let v = c.valid_front-valid.result in
    let valid = subst (λ (b : List ℕ). IsValid b v) c.deref.ensures.value c.valid_front-valid.ensures in
    answer-stop f c.first_bad.result c.told_stop.result
    (first-stops f.place f.comment f.waiting.items v c.first_bad.result valid
    (sym c.is_empty.ensures ∙ c.if-not-is_empty.true) c.first_bad.ensures) c.told_stop.ensures

pub returns-in-Ok-count_tokens : goal.returns-in-Ok-count_tokens
returns-in-Ok-count_tokens c =
    let f = c.args.faulty.now in
    let v = c.valid_front-valid.result in
    let to = c.in-Ok.passed in
    let valid = subst (λ (b : List ℕ). IsValid b v) c.deref.ensures.value c.valid_front-valid.ensures in
    let none : v.tail.now ≡ [] = nil_from_length v.tail.now (eqb-true _ _
    (sym c.is_empty.ensures ∙ c.if-not-is_empty.false)) in
    let us = cut_text to.place to.comment to.rest.now in
    answer-fault f (c.in-Ok.ensures.tokens ++ us)
    (rest-ends f.place f.comment f.waiting.items v to us valid none c.in-Ok.ensures c.in-Ok-count_tokens.ensures.0)

pub returns-in-Err-count_tokens : goal.returns-in-Err-count_tokens
returns-in-Err-count_tokens c =
    let f = c.args.faulty.now in
    let v = c.valid_front-valid.result in
    let to = c.in-Ok.passed in
    let valid = subst (λ (b : List ℕ). IsValid b v) c.deref.ensures.value c.valid_front-valid.ensures in
    let none : v.tail.now ≡ [] = nil_from_length v.tail.now (eqb-true _ _
    (sym c.is_empty.ensures ∙ c.if-not-is_empty.false)) in
    let stop = c.in-Err-count_tokens.stop in
    answer-stop f stop c.told_stop-in-Err-count_tokens.result
    (rest-stops f.place f.comment f.waiting.items v to stop valid none c.in-Ok.ensures
    c.in-Err-count_tokens.ensures) c.told_stop-in-Err-count_tokens.ensures

pub returns-in-Err : goal.returns-in-Err
returns-in-Err c =
    let f = c.args.faulty.now in
    let v = c.valid_front-valid.result in
    let valid = subst (λ (b : List ℕ). IsValid b v) c.deref.ensures.value c.valid_front-valid.ensures in
    let none : v.tail.now ≡ [] = nil_from_length v.tail.now (eqb-true _ _
    (sym c.is_empty.ensures ∙ c.if-not-is_empty.false)) in
    answer-stop f c.in-Err.stop c.told_stop-in-Err.result (text-stops f v c.in-Err.stop valid none c.in-Err.ensures)
    c.told_stop-in-Err.ensures
