use Rattle.std.proofs.Common.{◌≡◌, ◌++◌, ◌∷◌, [], List, subst, sym}
use Rattle.std.specs.Prelude.{map}
use Rattle.std.proofs.lemmas.Result.{err_from_is_err_and}
use Rattle.cyc_lex.specs.Placed.{Placed, placed}
use Rattle.piecewise_lex.specs.Owned.{owned}
use Rattle.piecewise_lex.specs.Taking.{reading, HasTaken}
use Rattle.piecewise_lex.proofs.TakingLaws.{taken-none, taken-stops}
use Rattle.piecewise_lex.proofs.FrontLaws.{one-more, at-end}
use Rattle.piecewise_lex.proofs.fronts.take_front.Goals as goal

pub tokens-init : goal.tokens-init
tokens-init c = rw c.new-tokens.ensures.items (record {
  taken = taken-none
      (reading c.args.place c.args.comment c.args.text.now);
  room = c.requires;
  utf8 = c.utf8.text;
})

pub returns-in_err-taken : goal.returns-in_err-taken
returns-in_err-taken c =
    let p = err_from_is_err_and c.from_residual.result c.from_residual.ensures.1 in
    rw (p.1, p.2) (taken-stops (reading c.args.place c.args.comment c.args.text.now)
    (reading c.tokens.place c.tokens.comment c.tokens.rest.now) (map owned c.tokens.tokens.items)
    c.in_err-taken.field-0.0 c.tokens.invariant.taken c.in_err-taken.ensures)

pub returns-in-None : goal.returns-in-None
returns-in-None c =
    let t = c.in_ok-taken.taken in
    let e = at-end (reading c.args.place c.args.comment c.args.text.now)
    (reading c.tokens.place c.tokens.comment c.tokens.rest.now) c.tokens.rest.now t
    (map owned c.tokens.tokens.items)
    c.tokens.invariant.taken c.in_ok-taken.ensures.taken c.in_ok-taken.ensures.nearer c.in_ok-taken.ensures.utf8
    c.in-None.is in
    record { tokens = e.tokens; place = e.place; comment = e.comment; waits = e.waits }

pub tokens-preserved : goal.tokens-preserved
tokens-preserved c =
    let t = c.in_ok-taken.taken in
    let token = c.in-Some.token in
    let here = reading c.args.place c.args.comment c.args.text.now in
    let more = one-more here (reading c.tokens.place c.tokens.comment c.tokens.rest.now) c.tokens.rest.now t
    (map owned c.tokens.tokens.items)
    c.tokens.invariant.taken c.in_ok-taken.ensures.taken c.in_ok-taken.ensures.nearer token c.in-Some.is in
    let items : map owned c.tokens.tokens.items ++ placed token ∷ []
    ≡ map owned c.push_own.new.tokens.items = sym c.in_ok-push_own-in-Some.ensures in
    record {
      taken = subst (λ (xs : List Placed). HasTaken here xs (reading t.place t.comment t.rest.now)) items more;
      room = c.in_ok-taken.ensures.room;
      utf8 = c.in_ok-taken.ensures.utf8;
    }
