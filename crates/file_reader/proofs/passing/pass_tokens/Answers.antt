use Rattle.std.proofs.Common.{◌++◌, ◌∷◌, []}
use Rattle.std.proofs.lemmas.Result.{err_from_is_err_and}
use Rattle.cyc_lex.specs.Placed.{placed}
use Rattle.piecewise_lex.specs.Taking.{reading}
use Rattle.piecewise_lex.proofs.TakingLaws.{taken-none, taken-stops}
use Rattle.piecewise_lex.proofs.TakingBytes.{taken-law, taken-count}
use Rattle.piecewise_lex.proofs.FrontLaws.{one-more, none-left, all-wait}
use Rattle.file_reader.proofs.passing.pass_tokens.Goals as goal

pub tokens-init : goal.tokens-init
tokens-init c = record {
  taken = ([], taken-none (reading c.args.place c.args.comment c.args.text.now));
  room = c.requires;
  utf8 = c.utf8.text;
}

pub returns-in_err-taken : goal.returns-in_err-taken
returns-in_err-taken c =
    let p = err_from_is_err_and c.from_residual.result c.from_residual.ensures.1 in
    let h = c.tokens.invariant.taken in
    rw (p.1, p.2) (taken-stops (reading c.args.place c.args.comment c.args.text.now)
    (reading c.tokens.place c.tokens.comment c.tokens.rest.now)
    h.0 c.in_err-taken.field-0.0 h.1 c.in_err-taken.ensures)

pub returns-in-None : goal.returns-in-None
returns-in-None c =
    let t = c.in_ok-taken.taken in
    let here = reading c.args.place c.args.comment c.args.text.now in
    let there = reading c.tokens.place c.tokens.comment c.tokens.rest.now in
    let h = c.tokens.invariant.taken in
    let all = none-left here there c.tokens.rest.now t h.0 h.1 c.in_ok-taken.ensures.taken c.in_ok-taken.ensures.nearer
    c.in-None.is in
    record {
      tokens = h.0;
      law = taken-law c.args.place t.place c.args.comment t.comment c.args.text.now t.rest.now h.0 c.utf8.text
          c.in_ok-taken.ensures.utf8 all;
      size = taken-count c.args.place t.place c.args.comment t.comment c.args.text.now t.rest.now h.0 c.utf8.text
          c.in_ok-taken.ensures.utf8 all;
      room = c.in_ok-taken.ensures.room;
      utf8 = c.in_ok-taken.ensures.utf8;
      waits = all-wait here there c.tokens.rest.now t h.0 h.1 c.in_ok-taken.ensures.taken c.in_ok-taken.ensures.nearer
          c.in-None.is;
    }

pub tokens-preserved : goal.tokens-preserved
tokens-preserved c =
    let t = c.in_ok-taken.taken in
    let token = c.in-Some._token in
    let here = reading c.args.place c.args.comment c.args.text.now in
    let there = reading c.tokens.place c.tokens.comment c.tokens.rest.now in
    let h = c.tokens.invariant.taken in
    record {
      taken = (
        h.0 ++ placed token ∷ [],
        one-more here there c.tokens.rest.now t h.0 h.1 c.in_ok-taken.ensures.taken c.in_ok-taken.ensures.nearer token
            c.in-Some.is,
      );
      room = c.in_ok-taken.ensures.room;
      utf8 = c.in_ok-taken.ensures.utf8;
    }
