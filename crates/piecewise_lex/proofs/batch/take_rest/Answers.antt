use Rattle.std.proofs.Common.{◌∙◌}
use Rattle.piecewise_lex.proofs.ValidLaws.{room-front, whole-tail}
use Rattle.piecewise_lex.proofs.Takes.{rest-all}
use Rattle.piecewise_lex.proofs.batch.take_rest.Goals as goal

pub take_all-requires : goal.take_all-requires
take_all-requires c = room-front c.args.place c.args.waiting.now c.valid_front-valid.result.text.now
    c.valid_front-valid.ensures.size c.requires

pub returns : goal.returns
returns c =
    let v = c.valid_front-valid.result in
    rest-all c.args.place c.args.comment c.args.waiting.now v.text.now c.is_empty.result c.take_all.result
    c.valid_front-valid.ensures.text (c.is_empty.ensures
    ∙ whole-tail c.args.waiting.now v.tail.now c.valid_front-valid.ensures.tail) c.take_all.ensures
