use Rattle.std.proofs.Common.{◌∙◌, ◌+◌, length, sym, ap, refl}
use Rattle.std.specs.Str.Lossy.{utf8_valid_len}
use Rattle.piecewise_lex.specs.Feeding.{valid_chars, is_cut}
use Rattle.piecewise_lex.proofs.RunLaws.{longer}
use Rattle.piecewise_lex.proofs.run.lengthened.Goals as goal

pub returns : goal.returns
returns c =
    let v = c.valid_front-valid.result in
    let e = c.valid_front-valid.ensures in
    let bytes = c.in_ok-bytes.bytes.items in
    longer c.args.waiting.now c.args.piece.now c.split_at.result.1.now bytes v.text.now c.args.known
    (record { run = c.args.known.run; len = c.args.known.len + length v.text.now })
    c.requires.known c.split_at.ensures.back c.in_ok-bytes.ensures
    (e.text ∙ ap valid_chars c.deref.ensures.value) (e.size ∙ ap utf8_valid_len c.deref.ensures.value)
    (sym (ap is_cut c.deref.ensures.value) ∙ sym e.cut ∙ c.if-not-valid.false)
    (sym c.goes_all.ensures ∙ c.if-not-goes_all.false) refl refl
