use Rattle.std.proofs.Common.{[], ◌≡◌, sym, refl, subst, ◌∙◌, eqb-true}
use Rattle.std.proofs.lemmas.List.{nil_from_length}
use Rattle.cyc_lex.specs.Lexing.{Stops}
use Rattle.file_reader.specs.declared.stretch.Stretch.{Stretch}
use Rattle.file_reader.proofs.EndLaws.{first-stops, whole-rest, last-stop, last-is}
use Rattle.file_reader.proofs.finishing.last_tokens.Goals as goal

pub returns-then-not-is_empty : goal.returns-then-not-is_empty
returns-then-not-is_empty c =
    let v = c.valid_front-valid.result in
    last-stop c.args.place c.args.comment c.args.bytes.now c.first_bad.result c.told_stop.result
    (first-stops c.args.place c.args.comment c.args.bytes.now v c.first_bad.result c.valid_front-valid.ensures
    (sym c.is_empty.ensures ∙ c.if-not-is_empty.true) c.first_bad.ensures) c.told_stop.ensures

pub returns-in-Ok : goal.returns-in-Ok
returns-in-Ok c =
    let v = c.valid_front-valid.result in
    let none : v.tail.now ≡ [] = nil_from_length v.tail.now (eqb-true _ _
    (sym c.is_empty.ensures ∙ c.if-not-is_empty.false)) in
    let s : Stretch = record {
      before = c.args.before;
      place = c.args.place;
      comment = c.args.comment;
      text = v.text;
      count = c.in-Ok.count;
    } in
    last-is s c.args.bytes.now v refl c.valid_front-valid.ensures none c.requires.small c.requires.few c.requires.room
    c.in-Ok.ensures.0 c.in-Ok.ensures.1

pub returns-in-Err : goal.returns-in-Err
returns-in-Err c =
    let v = c.valid_front-valid.result in
    let none : v.tail.now ≡ [] = nil_from_length v.tail.now (eqb-true _ _
    (sym c.is_empty.ensures ∙ c.if-not-is_empty.false)) in
    last-stop c.args.place c.args.comment c.args.bytes.now c.in-Err.stop c.told_stop-in-Err.result
    (subst (Stops c.in-Err.stop)
    (whole-rest c.args.place c.args.comment c.args.bytes.now v c.valid_front-valid.ensures none) c.in-Err.ensures)
    c.told_stop-in-Err.ensures
