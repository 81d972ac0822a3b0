use Rattle.std.proofs.Common.{sym, ◌∙◌}
use Rattle.piecewise_lex.proofs.ValidLaws.{room-front}
use Rattle.piecewise_lex.proofs.Takes.{takes-bytes, stops-bad}
use Rattle.piecewise_lex.proofs.batch.take_bytes.Goals as goal

pub first_bad-requires : goal.first_bad-requires
first_bad-requires c = room-front c.args.place c.args.bytes.now c.valid_front-valid.result.text.now
    c.valid_front-valid.ensures.size c.requires

pub take_text-requires : goal.take_text-requires
take_text-requires c = room-front c.args.place c.args.bytes.now c.valid_front-valid.result.text.now
    c.valid_front-valid.ensures.size c.requires

pub returns-then-not-valid : goal.returns-then-not-valid
returns-then-not-valid c = stops-bad c.args.place c.args.comment c.args.bytes.now c.valid_front-valid.result.text.now
    c.first_bad.result c.valid_front-valid.ensures.text (sym c.valid_front-valid.ensures.cut ∙ c.if-not-valid.true)
    c.first_bad.ensures

pub returns : goal.returns
returns c = takes-bytes c.args.place c.args.comment c.args.bytes.now c.valid_front-valid.result.text.now
    c.valid_front-valid.result.tail.now c.take_text.result c.valid_front-valid.ensures.text
    c.valid_front-valid.ensures.tail (sym c.valid_front-valid.ensures.cut ∙ c.if-not-valid.false) c.take_text.ensures
