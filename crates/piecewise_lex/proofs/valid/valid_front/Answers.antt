use Rattle.std.proofs.Common.{length, drop, ◌++◌, sym, ap, subst, ◌∙◌}
use Rattle.std.specs.Str.{IsUtf8}
use Rattle.std.proofs.lemmas.List.{append-nil, take-append-drop}
use Rattle.std.specs.Prelude.{is_none}
use Rattle.std.specs.Str.Lossy.{utf8_error_len}
use Rattle.std.proofs.lemmas.Str.{utf8_valid_len-IsUtf8}
use Rattle.piecewise_lex.proofs.ValidLaws.{chars-front, chars-whole, tail-whole, cut-whole, size-front, not-flip}
use Rattle.piecewise_lex.proofs.valid.valid_front.Goals as goal

pub returns-in-Ok : goal.returns-in-Ok
returns-in-Ok c =
    let u = c.in-Ok.ensures.cases.1 in
    record {
      whole = append-nil c.in-Ok.text.now ∙ c.in-Ok.ensures.cases.0;
      utf8 = subst IsUtf8 (sym c.in-Ok.ensures.cases.0) u;
      text = chars-whole c.args.bytes.now c.in-Ok.text.now c.in-Ok.ensures.cases.0 u;
      size = ap length c.in-Ok.ensures.cases.0 ∙ sym (utf8_valid_len-IsUtf8 c.args.bytes.now u);
      tail = tail-whole c.args.bytes.now u;
      cut = sym (cut-whole c.args.bytes.now u);
    }

pub returns-in-Ok-from_utf8 : goal.returns-in-Ok-from_utf8
returns-in-Ok-from_utf8 c =
    let bytes = c.args.bytes.now in
    let n-is = c.valid_up_to.ensures ∙ c.in-Err.ensures.valid_len in
    let same = c.in-Ok-from_utf8.ensures.cases.0 ∙ c.split_at.ensures.front in
    record {
      whole = (λ i. same i ++ c.split_at.ensures.back i) ∙ take-append-drop c.valid_up_to.result bytes;
      utf8 = subst IsUtf8 (sym c.in-Ok-from_utf8.ensures.cases.0) c.in-Ok-from_utf8.ensures.cases.1;
      text = chars-front bytes c.in-Ok-from_utf8.text.now c.valid_up_to.result n-is same;
      size = size-front bytes c.in-Ok-from_utf8.text.now c.valid_up_to.result n-is same;
      tail = c.split_at.ensures.back ∙ ap (λ k. drop k bytes) n-is;
      cut = not-flip _ _ c.is_none.ensures ∙ ap is_none (c.error_len.ensures ∙ c.in-Err.ensures.fault
          ∙ ap (λ k. utf8_error_len (drop k bytes)) c.in-Err.ensures.valid_len);
    }
